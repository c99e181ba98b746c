-- A module's rules, gathered by its symbols.
use Rattle.std.proofs.Common.{◌≡◌, ◌↔◌, ◌-◌, ◌<◌, ◌≤◌, List, [], ◌∷◌, Bool, true, false, IsTrue, length, get_or, take, drop, All, AllPairs, refl, sym, subst, ◌∙◌, true≢false, arith}
use Rattle.std.proofs.lemmas.List.Elements.{All-nil, All-cons, All-tail}
use Rattle.std.proofs.lemmas.Grind.{common_steps}
use Rattle.p9_abs.specs.declared.modules.AModule.{AModule}
use Rattle.p9_abs.specs.Validity.{AreApart, IsValid}
use Rattle.p9_obj.specs.Rules.{IsSymbol}

pub valid_of : (m : AModule) → All (IsSymbol (length m.symbols)) m.symbols → AllPairs AreApart m.symbols → IsValid m
valid_of m h apart = record {
  names = λ k d lt. (h k d lt).name;
  distinct = apart;
  locals = λ k d lt. (h k d lt).binding;
  signatures = λ k d lt. (h k d lt).signature;
  numbers = λ k d lt. (h k d lt).numbers;
  pieces = λ k d lt. (h k d lt).pieces;
  sizes = λ k d lt. (h k d lt).size;
  functions = λ k d lt. (h k d lt).function;
}

pub symbols_of : (m : AModule) → IsValid m → All (IsSymbol (length m.symbols)) m.symbols
symbols_of m v k d lt = record {
  name = v.names k d lt;
  binding = v.locals k d lt;
  signature = v.signatures k d lt;
  numbers = v.numbers k d lt;
  size = v.sizes k d lt;
  pieces = v.pieces k d lt;
  function = v.functions k d lt;
}

-- a module with a symbol that breaks a rule
pub invalid : (m : AModule) (b : Bool) → (IsTrue b ↔ All (IsSymbol (length m.symbols)) m.symbols) → b ≡ false → IsTrue false ↔ IsValid m
invalid m b h e = (λ t. absurd (true≢false (sym t)), λ v. absurd (true≢false (sym (h.1 (symbols_of m v)) ∙ e)))

-- what is left after the first
pub rest_is : {X : Type 0} (x : X) (after : List X) → take (length (x ∷ after) - 1) (drop 1 (x ∷ after)) ≡ after
rest_is x after = grind (arith, common_steps)

-- all of the list, once one more of it was seen
pub all_turn : {X : Type 0} (P : X → Type 0) (whole rest next : List X) (x : X) → 1 ≤ length rest → x ≡ get_or rest 0 x → next ≡ take (length rest - 1) (drop 1 rest) → P x → (All P rest ↔ All P whole) → All P next ↔ All P whole
all_turn P whole [] next x n here e p h = absurd (omega arith)
all_turn {X} P whole (y ∷ after) next x n here e p h =
    let same : next ≡ after = e ∙ rest_is y after in
    let Q : List X → Type 0 = λ v. All P v ↔ All P whole in
    subst Q (sym same) (λ a. h.0 (All-cons P y after (subst P here p) a), λ w. All-tail P y after (h.1 w))

-- all of the list, once all was seen
pub all_end : {X : Type 0} (P : X → Type 0) (whole rest : List X) → length rest < 1 → (All P rest ↔ All P whole) → IsTrue true ↔ All P whole
all_end P whole [] n h = (λ t. h.0 (All-nil P), λ w. refl)
all_end P whole (y ∷ after) n h = absurd (omega arith)
