-- The law of carrying: code that keeps another's steps may stand for it.
use Rattle.std.specs.Prelude.{◌≡◌, ◌≢◌, ◌≤◌, ℕ, ◌+◌, Option, Some, List}
use Rattle.p9_abs.specs.declared.instructions.Abs.{Abs}
use Rattle.p9_abs.specs.declared.instructions.AFunction.{AFunction}
use Rattle.p9_abs.specs.declared.instructions.TextDef.{TextDef}
use Rattle.p9_abs.specs.declared.regions.Region.{Region}
use Rattle.p9_abs.specs.declared.forms.Form.TheVariants as forms
use Rattle.p9_abs.specs.Automatics.{IsCode, form_at, is_variable}
use Rattle.p9_abs.specs.Runs.{keeps_return}
use Rattle.p9_abs.specs.OneCall.{Layout, IsLayout, in_words}
use Rattle.p9_abs.specs.Keeping.{KeepsOver, IsSettled}
use Rattle.p9_cmean.specs.Cells.{FunctionName}
use Rattle.p9_sim.specs.Memory.{Ground}
use Rattle.p9_sim.specs.Playing.{Branches}
use Rattle.p9_sim.specs.Functions.{Body, FnOk, FnOkOver}

-- there is no SYSCALL in the code
abbrev pub HasNoSystemCall : List Abs → Type 0
HasNoSystemCall code = (i : ℕ) → form_at code i ≢ Some forms.SystemCall

-- CODE OVER THE SAME AUTOMATICS

-- Both have the same automatics, the same layouts, in which the entry keeps the return address in
-- both or in neither, and the same words of the frame in use.
pub record HasSameLayouts (f h : AFunction) : Type 0 where
  pub autos : h.autos ≡ f.autos
  pub variables : (v : ℕ) → is_variable h v ≡ is_variable f v
  pub layouts : (l : Layout) → IsLayout h l → IsLayout f l
  pub keeps : (l : Layout) → IsLayout h l → keeps_return l.frame h.code ≡ keeps_return l.frame f.code
  pub words : (byte : ℕ) → in_words h.code byte ≡ in_words f.code byte

-- where h keeps the steps of f in every layout, it is right as f is
abbrev pub CarriesOver : Type 0
CarriesOver =
    (f h : AFunction) → IsCode f → HasSameLayouts f h → HasNoSystemCall f.code → HasNoSystemCall h.code → ((l : Layout) → IsLayout f l → KeepsOver f h l)
    → (g : Ground) (symbol : ℕ → ℕ) (need : ℕ) (body : Body) (name : FunctionName) → FnOkOver Branches g symbol f need body name
    → FnOkOver Branches g symbol h need body name

-- FRAMED CODE: where code that is framed from f, with room for its frame, keeps the steps of f, it is
-- right as f is
abbrev pub CarriesFramed : Type 0
CarriesFramed =
    (f : AFunction) (rs : List Region) (homes : List (Option ℕ)) (def : TextDef) → IsCode f → HasNoSystemCall f.code → HasNoSystemCall def.code → IsSettled f rs homes def
    → (g : Ground) (symbol : ℕ → ℕ) (need : ℕ) (body : Body) (name : FunctionName) → def.frame + 4 ≤ need → FnOkOver Branches g symbol f need body name
    → FnOk Branches g symbol def need body name
