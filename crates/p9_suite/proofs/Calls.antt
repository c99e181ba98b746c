-- What lists of calls leave: of which objects they are, and what the store tells.
use Rattle.std.proofs.Common.{◌≡◌, ◌≢◌, ℕ, List, [], ◌∷◌, ◌++◌, map, Option, Some, None, IfSome, Result, Ok, Err, refl, sym, ◌∙◌, ap, subst, append_assoc}
use Rattle.std.specs.Prelude.{IsSomeAnd}
use Rattle.p9_base.proofs.CallLemmas.{CallsFine-append}
use Rattle.p9_base.specs.Calls.{Call, OnFiles, OnStream, StreamCall, StreamsDid, StreamsFine, StreamsEnd, Failing, Objects, Did, CallsFine, CallsEnd}
use Rattle.p9_base.specs.Outside.{Held, TakeCall, PutCall, FileCall, ReadCall, WriteCall, FileMeans, Answers, OthersAsBefore, Writes}
use Rattle.p9_base.specs.Streams.{CallsDid}
use Rattle.p9_base.specs.declared.outside.FileFault.{FileFault}
use Rattle.p9_base.specs.declared.outside.FileFault.TheVariants as fault
use Rattle.p9_suite.specs.Scene.{doing, names_written}

-- Calls in two parts

pub after_fine : (front behind : List Call) (failed : Option Failing) → CallsFine front → CallsEnd behind failed → CallsEnd (front ++ behind) failed
after_fine front behind None f b = CallsFine-append front behind f b
after_fine front behind (Some object) f (before, last, is, fine, failed) =
    (front ++ before, last, ap (λ (x : List Call). front ++ x) is ∙ sym (append_assoc front before (last ∷ [])), CallsFine-append front before f fine, failed)

pub names_append : (front behind : List Call) → names_written (front ++ behind) ≡ names_written front ++ names_written behind
names_append [] behind = refl
names_append (OnStream call ∷ front) behind = names_append front behind
names_append (OnFiles (ReadCall name answer) ∷ front) behind = names_append front behind
names_append (OnFiles (WriteCall name bytes answer) ∷ front) behind = ap (λ (x : List (List ℕ)). name ∷ x) (names_append front behind)

pub names_streams : (calls : List StreamCall) → names_written (map OnStream calls) ≡ []
names_streams [] = refl
names_streams (call ∷ calls) = names_streams calls

-- the ends of calls on the source and the sink, among all calls
fine_streams : (calls : List StreamCall) → StreamsFine calls → CallsFine (map OnStream calls)
fine_streams [] fine = tt
fine_streams (call ∷ calls) fine = (fine.0, fine_streams calls fine.1)

mapped : (before : List StreamCall) (last : StreamCall) → map OnStream (before ++ last ∷ []) ≡ map OnStream before ++ OnStream last ∷ []
mapped [] last = refl
mapped (call ∷ before) last = ap (λ (x : List Call). OnStream call ∷ x) (mapped before last)

pub ends_streams : (calls : List StreamCall) (failed : Option Failing) → StreamsEnd calls failed → CallsEnd (map OnStream calls) failed
ends_streams calls None fine = fine_streams calls fine
ends_streams calls (Some object) (before, last, is, fine, failed) =
    (map OnStream before, OnStream last, ap (map OnStream) is ∙ mapped before last, fine_streams before fine, failed)

-- The objects of calls

module _ {I O F : Type 0} (takes : I → TakeCall → I → Type 0) (puts : O → PutCall → O → Type 0) (stores : F → FileCall → F → Type 0) where
  -- what was done by calls in two parts
  pub record Between (front behind : List Call) (old new : Objects I O F) : Type 0 where
    pub middle : Objects I O F
    pub first : Did (doing takes puts stores) old front middle
    pub then : Did (doing takes puts stores) middle behind new

  pub split : (front behind : List Call) (old new : Objects I O F) → Did (doing takes puts stores) old (front ++ behind) new → Between front behind old new
  split [] behind old new d = record { middle = old; first = refl; then = d }
  split (call ∷ front) behind old new (next, one, rest) =
      let b : Between front behind next new = split front behind next new rest in
      record { middle = b.middle; first = (next, one, b.first); then = b.then }

  -- of the store alone
  pub record OfStore (own : List FileCall) (old new : Objects I O F) : Type 0 where
    pub did : CallsDid stores old.files own new.files
    pub input : new.input ≡ old.input
    pub out : new.out ≡ old.out

  pub of_store : (own : List FileCall) (old new : Objects I O F) → Did (doing takes puts stores) old (map OnFiles own) new → OfStore own old new
  of_store [] old new e = record { did = ap (λ (x : Objects I O F). x.files) e; input = ap (λ (x : Objects I O F). x.input) e; out = ap (λ (x : Objects I O F). x.out) e }
  of_store (call ∷ own) old new (next, one, rest) =
      let r : OfStore own next new = of_store own next new rest in
      record { did = (next.files, one.0, r.did); input = r.input ∙ one.1; out = r.out ∙ one.2 }

  -- of the source and the sink alone
  pub record OfStreams (own : List StreamCall) (old new : Objects I O F) : Type 0 where
    pub did : StreamsDid takes puts old.input old.out own new.input new.out
    pub files : new.files ≡ old.files

  pub of_streams : (own : List StreamCall) (old new : Objects I O F) → Did (doing takes puts stores) old (map OnStream own) new → OfStreams own old new
  of_streams [] old new e = record { did = (ap (λ (x : Objects I O F). x.input) e, ap (λ (x : Objects I O F). x.out) e); files = ap (λ (x : Objects I O F). x.files) e }
  of_streams (call ∷ own) old new (next, one, rest) =
      let r : OfStreams own next new = of_streams own next new rest in
      record { did = (next.input, next.out, one.0, r.did); files = r.files ∙ one.1 }

-- What the store tells

-- what a read was answered, where the store holds this
abbrev pub Agrees : Held → FileCall → Type 0
Agrees before (ReadCall name answer) = Answers (before name) answer
Agrees before (WriteCall name bytes answer) = Unit {0}

abbrev pub AllAgree : Held → List FileCall → Type 0
AllAgree before [] = Unit {0}
AllAgree before (call ∷ calls) = Agrees before call × AllAgree before calls

pub agree_split : (before : Held) (front behind : List FileCall) → AllAgree before (front ++ behind) → AllAgree before front × AllAgree before behind
agree_split before [] behind a = (tt, a)
agree_split before (call ∷ front) behind a = let r = agree_split before front behind a.1 in ((a.0, r.0), r.1)

-- these calls only read
abbrev pub AreReads : List FileCall → Type 0
AreReads [] = Unit {0}
AreReads (ReadCall name answer ∷ calls) = AreReads calls
AreReads (WriteCall name bytes answer ∷ calls) = ⊥

pub reads_append : (front behind : List FileCall) → AreReads front → AreReads behind → AreReads (front ++ behind)
reads_append [] behind a b = b
reads_append (ReadCall name answer ∷ front) behind a b = reads_append front behind a b
reads_append (WriteCall name bytes answer ∷ front) behind a b = a

pub names_reads : (calls : List FileCall) → AreReads calls → names_written (map OnFiles calls) ≡ []
names_reads [] r = refl
names_reads (ReadCall name answer ∷ calls) r = names_reads calls r
names_reads (WriteCall name bytes answer ∷ calls) r = absurd r

if_some : {A : Type 0} {o : Option A} {x : A} (P : A → Type 0) → o ≡ Some x → IfSome o P → P x
if_some {o = None} P e h = cc
if_some {o = Some y} P e h = subst P (same e) h
  where
    same : {A : Type 0} {x y : A} → Some x ≡ Some y → x ≡ y
    same e = cc

pub some_and : {A : Type 0} {o : Option A} (P : A → Type 0) → IsSomeAnd o P → (x : A) × (o ≡ Some x) × P x
some_and {o = None} P h = absurd h
some_and {o = Some x} P h = (x, refl, h)

-- names that are not among these
abbrev pub IsNew : List ℕ → List (List ℕ) → Type 0
IsNew name [] = Unit {0}
IsNew name (n ∷ ns) = (name ≢ n) × IsNew name ns

module _ {I O F : Type 0} (takes : I → TakeCall → I → Type 0) (puts : O → PutCall → O → Type 0) (held : F → Option Held) (faults : F → ℕ) (stores : F → FileCall → F → Type 0)
    (means : (old : F) (call : FileCall) (new : F) → stores old call new → FileMeans (held old) (faults old) call (held new) (faults new)) where
  -- reads leave the store, and agree with what it tells
  pub reads_keep : (calls : List FileCall) (f g : F) → AreReads calls → CallsDid stores f calls g → held g ≡ held f
  reads_keep [] f g r d = ap held d
  reads_keep (ReadCall name answer ∷ calls) f g r (h, one, rest) = reads_keep calls h g r rest ∙ (means f (ReadCall name answer) h one).0.0
  reads_keep (WriteCall name bytes answer ∷ calls) f g r d = absurd r

  pub reads_agree : (before : Held) (calls : List FileCall) (f g : F) → AreReads calls → held f ≡ Some before → CallsDid stores f calls g → AllAgree before calls
  reads_agree before [] f g r e d = tt
  reads_agree before (ReadCall name answer ∷ calls) f g r e (h, one, rest) =
      let m = (means f (ReadCall name answer) h one).0 in
      (if_some (λ files. Answers (files name) answer) e m.1, reads_agree before calls h g r (m.0 ∙ e) rest)
  reads_agree before (WriteCall name bytes answer ∷ calls) f g r e d = absurd r

  -- a write that was answered so

  wrote_others : (name bytes : List ℕ) (answer : Result (Unit {0}) FileFault) (old later : Option Held) (before : Held) → Writes old later name bytes answer → old ≡ Some before → IsSomeAnd later (λ now. OthersAsBefore before now name)
  wrote_others name bytes (Ok done) old later before w e =
      let s = some_and (λ now. (now name ≡ Some bytes) × OthersAsBefore before now name) (if_some (λ b. IsSomeAnd later (λ now. (now name ≡ Some bytes) × OthersAsBefore b now name)) e w) in
      subst (λ (o : Option Held). IsSomeAnd o (λ now. OthersAsBefore before now name)) (sym s.1) s.2.1
  wrote_others name bytes (Err fault.Failed) old later before w e = if_some (λ b. IsSomeAnd later (λ now. OthersAsBefore b now name)) e w
  wrote_others name bytes (Err fault.NoMemory) old later before w e = subst (λ (o : Option Held). IsSomeAnd o (λ now. OthersAsBefore before now name)) (sym (w ∙ e)) (λ q n. refl)

  -- whatever the calls: other names have what they had
  pub others_kept : (calls : List Call) (old new : Objects I O F) (before : Held) → Did (doing takes puts stores) old calls new → held old.files ≡ Some before → IsSomeAnd (held new.files) (λ now. (q : List ℕ) → IsNew q (names_written calls) → now q ≡ before q)
  others_kept [] old new before d e =
      subst (λ (o : Option Held). IsSomeAnd o (λ now. (q : List ℕ) → IsNew q [] → now q ≡ before q)) (sym (ap (λ (x : Objects I O F). held x.files) d ∙ e)) (λ q n. refl)
  others_kept (OnStream call ∷ calls) old new before (next, one, rest) e = others_kept calls next new before rest (ap held one.1 ∙ e)
  others_kept (OnFiles (ReadCall name answer) ∷ calls) old new before (next, one, rest) e =
      others_kept calls next new before rest ((means old.files (ReadCall name answer) next.files one.0).0.0 ∙ e)
  others_kept (OnFiles (WriteCall name bytes answer) ∷ calls) old new before (next, one, rest) e =
      let w = some_and (λ now. OthersAsBefore before now name) (wrote_others name bytes answer (held old.files) (held next.files) before (means old.files (WriteCall name bytes answer) next.files one.0).0 e) in
      let r = some_and (λ now. (q : List ℕ) → IsNew q (names_written calls) → now q ≡ w.0 q) (others_kept calls next new w.0 rest w.1) in
      subst (λ (o : Option Held). IsSomeAnd o (λ now. (q : List ℕ) → IsNew q (name ∷ names_written calls) → now q ≡ before q)) (sym r.1)
      (λ q n. r.2 q n.1 ∙ w.2 q n.0)

  -- calls that write nothing leave the store
  pub unwritten : (calls : List Call) (old new : Objects I O F) → Did (doing takes puts stores) old calls new → names_written calls ≡ [] → held new.files ≡ held old.files
  unwritten [] old new d n = ap (λ (x : Objects I O F). held x.files) d
  unwritten (OnStream call ∷ calls) old new (next, one, rest) n = unwritten calls next new rest n ∙ ap held one.1
  unwritten (OnFiles (ReadCall name answer) ∷ calls) old new (next, one, rest) n = unwritten calls next new rest n ∙ (means old.files (ReadCall name answer) next.files one.0).0.0
  unwritten (OnFiles (WriteCall name bytes answer) ∷ calls) old new d n = cc

  -- what was written stands
  pub stands : (name bytes : List ℕ) (f g : F) (before : Held) → held f ≡ Some before → stores f (WriteCall name bytes (Ok tt)) g → IsSomeAnd (held g) (λ now. now name ≡ Some bytes)
  stands name bytes f g before e d =
      let s = some_and (λ now. (now name ≡ Some bytes) × OthersAsBefore before now name) (if_some (λ b. IsSomeAnd (held g) (λ now. (now name ≡ Some bytes) × OthersAsBefore b now name)) e (means f (WriteCall name bytes (Ok tt)) g d).0) in
      subst (λ (o : Option Held). IsSomeAnd o (λ now. now name ≡ Some bytes)) (sym s.1) s.2.0
