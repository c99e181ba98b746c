-- Calls of one stage, and then of another.
use Rattle.std.proofs.Common.{◌≡◌, ℕ, List, [], ◌∷◌, ◌++◌, map, Result, Ok, Err, refl, sym, ap, subst}
use Rattle.p9_base.proofs.CallLemmas.{Did-append, Did-streams}
use Rattle.p9_base.specs.Calls.{Call, StreamCall, OnFiles, OnStream, Objects, Did}
use Rattle.p9_base.specs.Outside.{TakeCall, PutCall, FileCall, ReadCall, WriteCall}
use Rattle.p9_base.specs.Streams.{CallsDid}
use Rattle.p9_base.specs.declared.outside.FileFault.TheVariants as store
use Rattle.p9_base.specs.declared.outside.Got.TheVariants as got
use Rattle.p9_suite.specs.declared.answer.Refusal.{Refusal}
use Rattle.p9_suite.specs.declared.answer.Refusal.TheVariants.{Absent, StoreFault, Memory}
use Rattle.p9_suite.specs.Scene.{doing, objects}
use Rattle.p9_suite.specs.Stages.{Stage, Then, stops, goes_on, OnStore, OnStreams, Makes, MakesOnStore, MakesOnStreams, ReadsFile, found, absent, read_fault, read_no_memory, name_no_memory, WritesFile, written, write_fault, write_no_memory, output_no_memory}

-- On the store alone

did_append : {S C : Type 0} (does : S → C → S → Type 0) (xs ys : List C) (a b c : S) → CallsDid does a xs b → CallsDid does b ys c → CallsDid does a (xs ++ ys) c
did_append does [] ys a b c e d = subst (λ s. CallsDid does s ys c) e d
did_append does (x ∷ xs) ys a b c (n, one, rest) d = (n, one, did_append does xs ys n b c rest d)

pub store_refused : {F A B : Type 0} (does : F → FileCall → F → Type 0) (f g : F) (first : Stage FileCall A) (next : A → Stage FileCall B) (why : Refusal) → MakesOnStore does f g first (Err why) → MakesOnStore does f g (Then first next) (Err why)
store_refused does f g first next why (calls, d, s) = (calls, d, stops why calls s)

pub store_went_on : {F A B : Type 0} (does : F → FileCall → F → Type 0) (f g h : F) (first : Stage FileCall A) (next : A → Stage FileCall B) (value : A) (result : Result B Refusal) → MakesOnStore does f g first (Ok value) → MakesOnStore does g h (next value) result → MakesOnStore does f h (Then first next) result
store_went_on does f g h first next value result (xs, d, s) (ys, e, t) = (xs ++ ys, did_append does xs ys f g h d e, goes_on value result xs ys s t)

-- a stage without calls behind
pub store_last : {F A B : Type 0} (does : F → FileCall → F → Type 0) (f g : F) (first : Stage FileCall A) (next : A → Stage FileCall B) (value : A) (result : Result B Refusal) → MakesOnStore does f g first (Ok value) → next value result [] → MakesOnStore does f g (Then first next) result
store_last does f g first next value result m t = store_went_on does f g g first next value result m ([], refl, t)

-- a stage without calls in front

pub store_here_refused : {F A B : Type 0} (does : F → FileCall → F → Type 0) (f : F) (first : Stage FileCall A) (next : A → Stage FileCall B) (why : Refusal) → first (Err why) [] → MakesOnStore does f f (Then first next) (Err why)
store_here_refused does f first next why s = ([], refl, stops why [] s)

pub store_here_went_on : {F A B : Type 0} (does : F → FileCall → F → Type 0) (f g : F) (first : Stage FileCall A) (next : A → Stage FileCall B) (value : A) (result : Result B Refusal) → first (Ok value) [] → MakesOnStore does f g (next value) result → MakesOnStore does f g (Then first next) result
store_here_went_on does f g first next value result s (calls, d, t) = (calls, d, goes_on value result [] calls s t)

-- Among all calls

module _ {I O F : Type 0} (takes : I → TakeCall → I → Type 0) (puts : O → PutCall → O → Type 0) (stores : F → FileCall → F → Type 0) where
  did_files : (i : I) (o : O) (f g : F) (own : List FileCall) → CallsDid stores f own g → Did (doing takes puts stores) (objects i o f) (map OnFiles own) (objects i o g)
  did_files i o f g [] e = ap (objects i o) e
  did_files i o f g (c ∷ cs) (h, one, rest) = (objects i o h, (one, refl, refl), did_files i o h g cs rest)

  pub all_refused : {A B : Type 0} (i : I) (o : O) (f g : F) (first : Stage FileCall A) (next : A → Stage Call B) (why : Refusal) → MakesOnStore stores f g first (Err why) → Makes (doing takes puts stores) (objects i o f) (objects i o g) (Then (OnStore first) next) (Err why)
  all_refused i o f g first next why (own, d, s) = (map OnFiles own, did_files i o f g own d, stops why (map OnFiles own) (own, refl, s))

  pub all_went_on : {A B : Type 0} (i : I) (o : O) (f g : F) (new : Objects I O F) (first : Stage FileCall A) (next : A → Stage Call B) (value : A) (result : Result B Refusal) → MakesOnStore stores f g first (Ok value) → Makes (doing takes puts stores) (objects i o g) new (next value) result → Makes (doing takes puts stores) (objects i o f) new (Then (OnStore first) next) result
  all_went_on i o f g new first next value result (own, d, s) (calls, e, t) = (
    map OnFiles own ++ calls,
    Did-append (doing takes puts stores) (map OnFiles own) calls (objects i o f) (objects i o g) new (did_files i o f g own d) e,
    goes_on value result (map OnFiles own) calls (own, refl, s) t,
  )

  pub on_streams : {A : Type 0} (i : I) (o : O) (j : I) (p : O) (f : F) (stage : Stage StreamCall A) (result : Result A Refusal) → MakesOnStreams takes puts i o j p stage result → Makes (doing takes puts stores) (objects i o f) (objects j p f) (OnStreams stage) result
  on_streams i o j p f stage result (own, d, s) = (map OnStream own, Did-streams (doing takes puts stores) own i o j p f d, (own, refl, s))

  pub on_store : {A : Type 0} (i : I) (o : O) (f g : F) (stage : Stage FileCall A) (result : Result A Refusal) → MakesOnStore stores f g stage result → Makes (doing takes puts stores) (objects i o f) (objects i o g) (OnStore stage) result
  on_store i o f g stage result (own, d, s) = (map OnFiles own, did_files i o f g own d, (own, refl, s))

  -- a stage without calls in front

  pub here_refused : {A B : Type 0} (old : Objects I O F) (first : Stage Call A) (next : A → Stage Call B) (why : Refusal) → first (Err why) [] → Makes (doing takes puts stores) old old (Then first next) (Err why)
  here_refused old first next why s = ([], refl, stops why [] s)

  pub here_went_on : {A B : Type 0} (old new : Objects I O F) (first : Stage Call A) (next : A → Stage Call B) (value : A) (result : Result B Refusal) → first (Ok value) [] → Makes (doing takes puts stores) old new (next value) result → Makes (doing takes puts stores) old new (Then first next) result
  here_went_on old new first next value result s (calls, d, t) = (calls, d, goes_on value result [] calls s t)

-- The calls of the stages that read and write

module _ {F : Type 0} (does : F → FileCall → F → Type 0) (f g : F) (name : List ℕ) where
  pub reads_found : (bytes : List ℕ) → does f (ReadCall name (got.Found bytes)) g → MakesOnStore does f g (ReadsFile name) (Ok bytes)
  reads_found bytes d = (ReadCall name (got.Found bytes) ∷ [], (g, d, refl), found bytes)

  pub reads_absent : (word : List ℕ) → word ≡ name → does f (ReadCall name got.Absent) g → MakesOnStore does f g (ReadsFile name) (Err (Absent word))
  reads_absent word e d = subst (λ (x : List ℕ). MakesOnStore does f g (ReadsFile name) (Err (Absent x))) (sym e) (ReadCall name got.Absent ∷ [], (g, d, refl), absent)

  pub reads_fault : (word : List ℕ) → word ≡ name → does f (ReadCall name got.Failed) g → MakesOnStore does f g (ReadsFile name) (Err (StoreFault word))
  reads_fault word e d = subst (λ (x : List ℕ). MakesOnStore does f g (ReadsFile name) (Err (StoreFault x))) (sym e) (ReadCall name got.Failed ∷ [], (g, d, refl), read_fault)

  pub reads_no_memory : does f (ReadCall name got.NoMemory) g → MakesOnStore does f g (ReadsFile name) (Err Memory)
  reads_no_memory d = (ReadCall name got.NoMemory ∷ [], (g, d, refl), read_no_memory)

  pub writes_done : (word bytes : List ℕ) → word ≡ name → does f (WriteCall word bytes (Ok tt)) g → MakesOnStore does f g (WritesFile name bytes) (Ok tt)
  writes_done word bytes e d = (WriteCall name bytes (Ok tt) ∷ [], (g, subst (λ (x : List ℕ). does f (WriteCall x bytes (Ok tt)) g) e d, refl), written)

  pub writes_fault : (word bytes : List ℕ) → word ≡ name → does f (WriteCall word bytes (Err store.Failed)) g → MakesOnStore does f g (WritesFile name bytes) (Err (StoreFault word))
  writes_fault word bytes e d =
      subst (λ (x : List ℕ). MakesOnStore does f g (WritesFile name bytes) (Err (StoreFault x))) (sym e)
      (WriteCall name bytes (Err store.Failed) ∷ [], (g, subst (λ (x : List ℕ). does f (WriteCall x bytes (Err store.Failed)) g) e d, refl), write_fault)

  pub writes_no_memory : (word bytes : List ℕ) → word ≡ name → does f (WriteCall word bytes (Err store.NoMemory)) g → MakesOnStore does f g (WritesFile name bytes) (Err Memory)
  writes_no_memory word bytes e d = (WriteCall name bytes (Err store.NoMemory) ∷ [], (g, subst (λ (x : List ℕ). does f (WriteCall x bytes (Err store.NoMemory)) g) e d, refl), write_no_memory)

pub reads_no_name : {F : Type 0} (does : F → FileCall → F → Type 0) (f : F) (name : List ℕ) → MakesOnStore does f f (ReadsFile name) (Err Memory)
reads_no_name does f name = ([], refl, name_no_memory)

pub writes_no_name : {F : Type 0} (does : F → FileCall → F → Type 0) (f : F) (name bytes : List ℕ) → MakesOnStore does f f (WritesFile name bytes) (Err Memory)
writes_no_name does f name bytes = ([], refl, output_no_memory)
