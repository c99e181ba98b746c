-- Files that are read one after the other, each by the same stage.
use Rattle.std.proofs.Common.{◌≡◌, ℕ, ◌-◌, ◌≤◌, ◌<◌, suc, List, [], ◌∷◌, ◌++◌, All, length, take, drop, get_or, Result, Ok, Err, refl, sym, ◌∙◌, ap, subst, append_assoc, append-nil, arith}
use Rattle.std.proofs.Math.Seq.{take-length}
use Rattle.std.proofs.lemmas.List.Elements.{All-cons, All-nil}
use Rattle.p9_base.specs.Outside.{FileCall}
use Rattle.p9_suite.proofs.StageLemmas.{store_refused, store_went_on}
use Rattle.p9_suite.proofs.Tidy.{OnlyReads, then_reads}
use Rattle.p9_suite.specs.declared.answer.Refusal.{Refusal}
use Rattle.p9_suite.specs.declared.answer.Refusal.TheVariants.{Memory}
use Rattle.p9_suite.specs.Stages.{Stage, Each, Gives, MakesOnStore, Then, goes_on}

-- values in front of those that a stage gives
abbrev pub added : {A : Type 0} → List A → Result (List A) Refusal → Result (List A) Refusal
added values (Ok others) = Ok (values ++ others)
added values (Err why) = Err why

added_twice : {A : Type 0} (values : List A) (value : A) (r : Result (List A) Refusal) → added values (added (value ∷ []) r) ≡ added (values ++ value ∷ []) r
added_twice values value (Ok others) = ap Ok (sym (append_assoc values (value ∷ []) others))
added_twice values value (Err why) = refl

added_none : {A : Type 0} (r : Result (List A) Refusal) → added [] r ≡ r
added_none (Ok others) = refl
added_none (Err why) = refl

-- a slice with an element is that and the others
pub split_first : (rest : List (List ℕ)) (name : List ℕ) → 1 ≤ length rest → name ≡ get_or rest 0 name → rest ≡ name ∷ take (length rest - 1) (drop 1 rest)
split_first [] name h e = absurd (omega arith)
split_first (x ∷ xs) name h e =
    let count : length (x ∷ xs) - 1 ≡ length xs = omega arith in
    let behind : take (length (x ∷ xs) - 1) xs ≡ xs = ap (λ n. take n xs) count ∙ take-length xs in
    λ i. sym e i ∷ sym behind i

pub none_left : (rest : List (List ℕ)) → length rest < 1 → rest ≡ []
none_left [] h = refl
none_left (x ∷ xs) h = absurd (omega arith)

-- What is done so far: whatever the reads of the other names do, all reads do with it.
pub record HasRead {F A : Type 0} (does : F → FileCall → F → Type 0) (stage : List ℕ → Stage FileCall A) (old now : F) (names rest : List (List ℕ)) (values : List A) : Type 0 where
  pub goes : (new : F) (r : Result (List A) Refusal) → MakesOnStore does now new (Each stage rest) r → MakesOnStore does old new (Each stage names) (added values r)

pub none_read : {F A : Type 0} (does : F → FileCall → F → Type 0) (stage : List ℕ → Stage FileCall A) (f : F) (names : List (List ℕ)) → HasRead does stage f f names names []
none_read does stage f names = record { goes = λ new r m. subst (MakesOnStore does f new (Each stage names)) (sym (added_none r)) m }

module _ {F A : Type 0} (does : F → FileCall → F → Type 0) (stage : List ℕ → Stage FileCall A) where
  -- the files behind the first
  one_more : (now next new : F) (name : List ℕ) (rest : List (List ℕ)) (value : A) (r : Result (List A) Refusal) → MakesOnStore does now next (stage name) (Ok value) → MakesOnStore does next new (Each stage rest) r → MakesOnStore does now new (Each stage (name ∷ rest)) (added (value ∷ []) r)
  one_more now next new name rest value (Ok others) one m =
      store_went_on does now next new (stage name) (λ value. Then (Each stage rest) (λ values. Gives (value ∷ values))) value (Ok (value ∷ others)) one
      (store_went_on does next new new (Each stage rest) (λ values. Gives (value ∷ values)) others (Ok (value ∷ others)) m ([], refl, (refl, refl)))
  one_more now next new name rest value (Err why) one m =
      store_went_on does now next new (stage name) (λ value. Then (Each stage rest) (λ values. Gives (value ∷ values))) value (Err why) one
      (store_refused does next new (Each stage rest) (λ values. Gives (value ∷ values)) why m)

  pub rest_read : (old now new : F) (names before rest : List (List ℕ)) (name : List ℕ) (values next : List A) (value : A) → HasRead does stage old now names before values → before ≡ name ∷ rest → MakesOnStore does now new (stage name) (Ok value) → next ≡ values ++ value ∷ [] → HasRead does stage old new names rest next
  rest_read old now new names before rest name values next value h b one e = record {
    goes = λ end r m.
        let all = h.goes end (added (value ∷ []) r) (subst (λ (x : List (List ℕ)). MakesOnStore does now end (Each stage x) (added (value ∷ []) r)) (sym b) (one_more now new end name rest value r one m)) in
        subst (MakesOnStore does old end (Each stage names)) (added_twice values value r ∙ ap (λ (x : List A). added x r) (sym e)) all;
  }

  pub all_read : (old now : F) (names rest : List (List ℕ)) (values : List A) → HasRead does stage old now names rest values → rest ≡ [] → MakesOnStore does old now (Each stage names) (Ok values)
  all_read old now names rest values h e =
      let last : MakesOnStore does now now (Each stage rest) (Ok []) = subst (λ (x : List (List ℕ)). MakesOnStore does now now (Each stage x) (Ok [])) (sym e) ([], refl, (refl, refl)) in
      subst (λ (x : List A). MakesOnStore does old now (Each stage names) (Ok x)) (append-nil values) (h.goes now (Ok []) last)

  pub stop_read : (old now new : F) (names before rest : List (List ℕ)) (name : List ℕ) (values : List A) (why : Refusal) → HasRead does stage old now names before values → before ≡ name ∷ rest → MakesOnStore does now new (stage name) (Err why) → MakesOnStore does old new (Each stage names) (Err why)
  stop_read old now new names before rest name values why h b s =
      h.goes new (Err why) (subst (λ (x : List (List ℕ)). MakesOnStore does now new (Each stage x) (Err why)) (sym b)
      (store_refused does now new (stage name) (λ value. Then (Each stage rest) (λ values. Gives (value ∷ values))) why s))

  -- memory that runs out behind a file that was read has run out while it was read
  pub unkept : (old now new : F) (names before rest : List (List ℕ)) (name : List ℕ) (values : List A) (value : A) → ((calls : List FileCall) → stage name (Ok value) calls → stage name (Err Memory) calls) → HasRead does stage old now names before values → before ≡ name ∷ rest → MakesOnStore does now new (stage name) (Ok value) → MakesOnStore does old new (Each stage names) (Err Memory)
  unkept old now new names before rest name values value lost h b (calls, d, s) = stop_read old now new names before rest name values Memory h b (calls, d, lost calls s)

-- What the reads say of the values

ok_is : {A : Type 0} {x y : A} → ◌≡◌ {A = Result A Refusal} (Ok x) (Ok y) → x ≡ y
ok_is e = cc

-- the first value and the others
pub record Split {A : Type 0} (stage : List ℕ → Stage FileCall A) (name : List ℕ) (names : List (List ℕ)) (values : List A) (calls : List FileCall) : Type 0 where
  pub value : A
  pub others : List A
  pub are : values ≡ value ∷ others
  pub front : List FileCall
  pub behind : List FileCall
  pub made : calls ≡ front ++ behind
  pub first : stage name (Ok value) front
  pub rest : Each stage names (Ok others) behind

pub split_reads : {A : Type 0} (stage : List ℕ → Stage FileCall A) (name : List ℕ) (names : List (List ℕ)) (values : List A) (calls : List FileCall) → Each stage (name ∷ names) (Ok values) calls → Split stage name names values calls
split_reads {A} stage name names values _ (goes_on value _ front behind one more) = by behind more
  where
    by : (behind : List FileCall) → Then (Each stage names) (λ others. Gives (value ∷ others)) (Ok values) behind → Split stage name names values (front ++ behind)
    by _ (goes_on others _ reads last rest given) = record {
      value = value;
      others = others;
      are = ok_is given.0;
      front = front;
      behind = reads;
      made = ap (λ x. front ++ (reads ++ x)) given.1 ∙ ap (λ x. front ++ x) (append-nil reads);
      first = one;
      rest = rest;
    }

pub read_count : {A : Type 0} (stage : List ℕ → Stage FileCall A) (names : List (List ℕ)) (values : List A) (calls : List FileCall) → Each stage names (Ok values) calls → length values ≡ length names
read_count stage [] values calls r = ap (λ x. length x) (ok_is r.0)
read_count stage (name ∷ names) values calls r =
    let s = split_reads stage name names values calls r in ap (λ x. length x) s.are ∙ ap (λ n. suc n) (read_count stage names s.others s.behind s.rest)

-- what holds of each value, by the calls that gave it
pub each_holds : {A : Type 0} (stage : List ℕ → Stage FileCall A) (P : A → Type 0) → ((name : List ℕ) (value : A) (calls : List FileCall) → stage name (Ok value) calls → P value) → (names : List (List ℕ)) (values : List A) (calls : List FileCall) → Each stage names (Ok values) calls → All P values
each_holds stage P one [] values calls r = subst (λ x. All P x) (sym (ok_is r.0)) (All-nil P)
each_holds stage P one (name ∷ names) values calls r =
    let s = split_reads stage name names values calls r in
    subst (λ x. All P x) (sym s.are) (All-cons P s.value s.others (one name s.value s.front s.first) (each_holds stage P one names s.others s.behind s.rest))

-- Reads alone

gives_reads : {A : Type 0} (value : A) (r : Result A Refusal) (calls : List FileCall) → Gives value r calls → OnlyReads r calls
gives_reads {A} value r calls g = subst (λ (x : Result A Refusal). OnlyReads x calls) (sym g.0) (subst (λ (x : List FileCall). OnlyReads (Ok value) x) (sym g.1) (record { reads = tt; ends = tt }))

pub each_reads : {A : Type 0} (stage : List ℕ → Stage FileCall A) → ((name : List ℕ) (r : Result A Refusal) (calls : List FileCall) → stage name r calls → OnlyReads r calls) → (names : List (List ℕ)) (r : Result (List A) Refusal) (calls : List FileCall) → Each stage names r calls → OnlyReads r calls
each_reads stage one [] r calls g = gives_reads [] r calls g
each_reads stage one (name ∷ names) r calls s =
    then_reads (stage name) (λ value. Then (Each stage names) (λ values. Gives (value ∷ values))) (one name)
    (λ value. then_reads (Each stage names) (λ values. Gives (value ∷ values)) (each_reads stage one names) (λ values. gives_reads (value ∷ values)))
    r calls s
