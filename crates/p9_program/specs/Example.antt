-- A small program: `void main(void) { }`, and an object for it that is made by hand.
use Rattle.std.specs.Prelude.{false, [], ◌∷◌, unwrap_or, codes}
use Rattle.p9_abs.specs.declared.instructions.Op.TheVariants.{Ret}
use Rattle.p9_abs.specs.declared.modules.Body.TheVariants.{Text}
use Rattle.p9_abs.specs.declared.modules.Symbol as abs
use Rattle.p9_abs.specs.declared.modules.AModule.{AModule}
use Rattle.p9_abs.specs.BuiltIn.{inst}
use Rattle.p9_lang.specs.declared.tree.Spec.{Spec}
use Rattle.p9_lang.specs.declared.tree.Kind.TheVariants as kind
use Rattle.p9_lang.specs.Types as types
use Rattle.p9_lang.specs.Types.{TypeTree, Function, Void, Outer}
use Rattle.p9_lang.specs.Trees.{node, none, more}
use Rattle.p9_lang.specs.Modules.{Label, Typed, Source}
use Rattle.p9_sig.specs.Texts.{signature_text}
use Rattle.p9_cmean.specs.Joins.{Join}
use Rattle.p9_program.specs.Linking.{AreTranslations}

abbrev pub main_type : TypeTree
main_type = Function Void types.none

abbrev pub main_label : Label
main_label = record { number = 0; token = 0; type = main_type; means = Outer (codes "main") }

abbrev pub main_block : Typed
main_block = node kind.Block main_label none

abbrev pub main_item : Spec → Typed
main_item spec = node (kind.Function spec) main_label (more (node (kind.DeclName (codes "main")) main_label none) (more main_block none))

abbrev pub main_source : Spec → Source
main_source spec = record { items = more (main_item spec) none; tags = []; statics = [] }

-- its code is a RET
abbrev pub main_symbol : abs.Symbol
main_symbol = record {
  name = codes "main";
  local = false;
  sig = unwrap_or (signature_text [] main_type) [];
  body = Text (record { frame = 0; code = inst Ret [] ∷ [] });
}

abbrev pub main_out : AModule
main_out = record { symbols = main_symbol ∷ [] }

-- whatever words its tree has
abbrev pub SmallProgram : Type 0
SmallProgram = (spec : Spec) → Join (main_source spec ∷ []) × AreTranslations (main_source spec ∷ []) (main_out ∷ [])
