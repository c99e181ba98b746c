-- The computed test says that constants are typed.
use Rattle.std.proofs.Common.{◌≡◌, ℕ, ◌&&◌, true, refl, sym, subst}
use Rattle.std.proofs.lemmas.Bool.{and_parts, true≢false}
use Rattle.p9_lang.specs.declared.tree.Kind.{Kind}
use Rattle.p9_lang.specs.declared.tree.Kind.TheVariants as kind
use Rattle.p9_lang.specs.Types.{TypeTree, Tags}
use Rattle.p9_lang.specs.Trees.{node, none, more}
use Rattle.p9_lang.specs.Modules.{Typed, TypedRow}
use Rattle.p9_lang.specs.Conversions.{is_integer}
use Rattle.p9_lang.specs.Constants.{Constant, Value, constant_of}
use Rattle.p9_cmean.specs.ConstantLaws.{LeafIsAlone, ConstantsAreTyped, AllConstantsAreTyped, is_typed_constant, has_no_parts, leaf_is_alone, constants_are_typed, all_constants_are_typed, TestedConstantsAreTyped}

typed-value : (c : Constant) (type : TypeTree) → is_typed_constant c type ≡ true → (word : ℕ) → c ≡ Value word → is_integer type ≡ true
typed-value c type h word e = subst (λ x. is_typed_constant x type ≡ true) e h

no-parts : (parts : TypedRow) → has_no_parts parts ≡ true → parts ≡ none
no-parts none h = refl
no-parts (more first others) h = absurd (true≢false (sym h))

alone : (k : Kind) (parts : TypedRow) → leaf_is_alone k parts ≡ true → LeafIsAlone k parts
alone (kind.Number n unsigned long) parts h = no-parts parts h
alone (kind.Character n) parts h = no-parts parts h
alone (kind.Name x) parts h = no-parts parts h
alone k parts h = tt

mutual
  typed-in : (tags : Tags) (e : Typed) → constants_are_typed tags e ≡ true → ConstantsAreTyped tags e
  typed-in tags (node k label parts) h =
      let p = and_parts (is_typed_constant (constant_of tags (node k label parts)) label.type) (leaf_is_alone k parts && all_constants_are_typed tags parts) h in
      let q = and_parts (leaf_is_alone k parts) (all_constants_are_typed tags parts) p.1 in
      (typed-value (constant_of tags (node k label parts)) label.type p.0, alone k parts q.0, all-typed-in tags parts q.1)

  all-typed-in : (tags : Tags) (parts : TypedRow) → all_constants_are_typed tags parts ≡ true → AllConstantsAreTyped tags parts
  all-typed-in tags none h = tt
  all-typed-in tags (more first others) h =
      let p = and_parts (constants_are_typed tags first) (all_constants_are_typed tags others) h in
      (typed-in tags first p.0, all-typed-in tags others p.1)

pub tested_constants_are_typed : TestedConstantsAreTyped
tested_constants_are_typed tags e h = typed-in tags e h
