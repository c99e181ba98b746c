-- The stage that assembles.
use Rattle.std.proofs.Common.{◌≡◌, ◌≢◌, ◌⊎◌, ℕ, List, [], Ok, Err, inl, inr, refl, sym, subst}
use Rattle.p9_abs.specs.declared.modules.AModule.{AModule}
use Rattle.p9_asm.specs.Assembled.{assembled, IsRefusal}
use Rattle.p9_asm.specs.declared.fault.AsmFault.{AsmFault}
use Rattle.p9_asm.specs.declared.fault.AsmFault.TheVariants as faults
use Rattle.p9_object.specs.Fields.{spelling}
use Rattle.p9_object.specs.Laws.{IsObject}
use Rattle.p9_suite.specs.commands.Va.{Assembles, assembles, refuses, assemble_no_memory}
use Rattle.p9_suite.specs.declared.answer.Refusal.{Refusal}
use Rattle.p9_suite.specs.declared.answer.Refusal.TheVariants.{Assembly, Memory}

-- the object is the spelling of the module that the text is
pub spelled : {C : Type 0} (name text bytes : List ℕ) (m : AModule) → assembled text ≡ Ok m → IsObject m → bytes ≡ spelling m → Assembles {C = C} name text (Ok bytes) []
spelled {C} name text bytes m is valid e = subst (λ (x : List ℕ). Assembles {C = C} name text (Ok x) []) (sym e) (assembles m is valid)

-- a fault but want of memory is the text's
fault_is : (text : List ℕ) (why : AsmFault) → IsRefusal text why → why ≢ faults.Memory → assembled text ≡ Err why
fault_is text (faults.Lex why) r n = r
fault_is text (faults.AsmSyntax line) r n = r
fault_is text (faults.Reserved line register) r n = r
fault_is text (faults.NoLabel line name) r n = r
fault_is text (faults.LabelTwice line name) r n = r
fault_is text faults.Memory r n = absurd (n refl)

pub refused : {C : Type 0} (name text : List ℕ) (why : AsmFault) (answer : Refusal) → IsRefusal text why → (answer ≡ Memory) ⊎ ((why ≢ faults.Memory) × (answer ≡ Assembly name why)) → Assembles {C = C} name text (Err answer) []
refused {C} name text why answer r (inl e) = subst (λ (x : Refusal). Assembles {C = C} name text (Err x) []) (sym e) assemble_no_memory
refused {C} name text why answer r (inr f) = subst (λ (x : Refusal). Assembles {C = C} name text (Err x) []) (sym f.1) (refuses why (fault_is text why r f.0))
