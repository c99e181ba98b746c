-- Among modules in which no name is defined twice, the chosen definition of a name is one, and the table
-- has the one that the run of the modules goes by.
use Rattle.std.proofs.Common.{◌≡◌, ◌<◌, ◌⊎◌, inl, inr, ℕ, ◌&&◌, Bool, true, false, Option, Some, None, Result, Ok, Err, IfOk, List, length, ◌^◌, All, refl, sym, ap, ◌∙◌, subst, arith, true≢false}
use Rattle.p9_abs.specs.declared.modules.Body.{Body}
use Rattle.p9_abs.specs.declared.modules.Body.TheVariants.{Declared, Used, Text, Data, Common}
use Rattle.p9_abs.specs.declared.modules.Def.{Def}
use Rattle.p9_abs.specs.declared.modules.AModule.{AModule}
use Rattle.p9_abs.specs.Modules.{is_definition, is_full}
use Rattle.p9_abs.specs.Names.{Defines, IsUndefined, IsChosen}
use Rattle.p9_abs.specs.Validity.{IsValid}
use Rattle.p9_abs.specs.BuiltIn.{linked}
use Rattle.p9_abs.specs.Programs.{chosen}
use Rattle.p9_abs.proofs.Choosing.{chosen_is_chosen, none_is_undefined}
use Rattle.p9_names.specs.declared.rules.Rule.TheVariants.{Once}
use Rattle.p9_names.specs.Rules.{clash}
use Rattle.p9_names.specs.Linking.{IsKept, IsTable, ChoosesAll}
use Rattle.p9_names.specs.Answers.{Joins}
use Rattle.p9_names.specs.declared.table.Table.{Table}
use Rattle.p9_names.specs.declared.table.LinkFault.{LinkFault}
use Rattle.p9_names.proofs.Answering.{linkable}
use Rattle.p9_names.specs.Passes.{AreLinkable, globals_of}
use Rattle.p9_names.proofs.Exactness.{not_after-both}
use Rattle.p9_names.proofs.Listing.{listing}

-- two full definitions clash
full-clash : (a b : Body) → is_full a ≡ true → is_full b ≡ true → clash a b ≡ true
full-clash (Text f) (Text g) h k = refl
full-clash (Text f) (Data q) h k = refl
full-clash (Data p) (Text g) h k = refl
full-clash (Data p) (Data q) h k = refl
full-clash (Text f) Declared h k = absurd (true≢false (sym k))
full-clash (Text f) Used h k = absurd (true≢false (sym k))
full-clash (Text f) (Common n) h k = absurd (true≢false (sym k))
full-clash (Data p) Declared h k = absurd (true≢false (sym k))
full-clash (Data p) Used h k = absurd (true≢false (sym k))
full-clash (Data p) (Common n) h k = absurd (true≢false (sym k))
full-clash Declared b h k = absurd (true≢false (sym h))
full-clash Used b h k = absurd (true≢false (sym h))
full-clash (Common n) b h k = absurd (true≢false (sym h))

module _ (ms : List AModule) (linkable : AreLinkable ms) (once : IsKept Once ms) (name : List ℕ) where
  full-once : (d e : Def) (x : Defines ms name d) (y : Defines ms name e) → is_full x.symbol.body ≡ true → is_full y.symbol.body ≡ true → d.«module» < e.«module» → ⊥
  full-once d e x y h k l = once name d e (record {
    early = x.symbol;
    late = y.symbol;
    early_occurs = x.occurs;
    late_occurs = y.occurs;
    ordered = l;
    broken = full-clash x.symbol.body y.symbol.body h k;
  })

  both-full : (d e : Def) (x : Defines ms name d) (y : Defines ms name e) → is_full x.symbol.body ≡ true → is_full y.symbol.body ≡ true → d ≡ e
  both-full d e x y h k = by (order d.«module» e.«module»)
    where
      order : (a b : ℕ) → (a < b) ⊎ ((a ≡ b) ⊎ (b < a))
      order a b = grind (arith)

      by : ((d.«module» < e.«module») ⊎ ((d.«module» ≡ e.«module») ⊎ (e.«module» < d.«module»))) → d ≡ e
      by (inl l) = absurd (full-once d e x y h k l)
      by (inr (inl same)) = (listing ms linkable).single name d e x.symbol y.symbol x.occurs y.occurs same
      by (inr (inr l)) = absurd (full-once e d y x k h l)

  one_choice : (d e : Def) → IsChosen ms name d → IsChosen ms name e → d ≡ e
  one_choice d e x y = by (is_full x.defines.symbol.body) (is_full y.defines.symbol.body) refl refl
    where
      by : (a b : Bool) → is_full x.defines.symbol.body ≡ a → is_full y.defines.symbol.body ≡ b → d ≡ e
      by true true h k = both-full d e x.defines y.defines h k
      by true false h k = absurd (true≢false (sym h ∙ (y.common k d x.defines).0))
      by false true h k = absurd (true≢false (sym k ∙ (x.common h e y.defines).0))
      by false false h k = not_after-both d e (x.common h e y.defines).1 (y.common k d x.defines).1

  chosen-is : (d : Def) → IsChosen ms name d → chosen ms name ≡ Some d
  chosen-is d x = by (chosen ms name) refl
    where
      by : (o : Option Def) → chosen ms name ≡ o → o ≡ Some d
      by None e = absurd (none_is_undefined ms name e d x.defines)
      by (Some other) e = ap Some (one_choice other d (chosen_is_chosen ms name other e) x)

pub table_chooses : (ms : List AModule) (entries : List (List ℕ × Def)) → AreLinkable ms → IsKept Once ms → IsTable ms entries → ChoosesAll ms entries
table_chooses ms entries linkable once table k d l = chosen-is ms linkable once _ _ (table.chosen k d l)

-- of the answer for valid modules
pub answer_chooses : (modules : List AModule) (r : Result Table LinkFault) → All IsValid modules → length modules < 2 ^ 32 → All (λ m. length m.symbols < 2 ^ 32) modules
    → IfOk r (λ t. Joins (linked modules)) → IfOk r (λ t. IsTable (linked modules) t.defs.entries) → IfOk r (λ t. ChoosesAll (linked modules) t.defs.entries)
answer_chooses modules (Ok t) valid count small joins table =
    table_chooses (linked modules) t.defs.entries (linkable modules valid count small) joins.once table
answer_chooses modules (Err fault) valid count small joins table = tt
