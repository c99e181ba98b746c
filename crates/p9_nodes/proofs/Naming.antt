-- Names and initialisers of declarators.
use Rattle.std.proofs.Common.{◌≡◌, Bool, true, false, Option, Some, None, refl, sym, ap, ◌∙◌}
use Rattle.std.specs.Prelude.{if◌then◌else◌}
use Rattle.p9_lang.specs.declared.tree.Kind.{Kind}
use Rattle.p9_lang.specs.declared.tree.Kind.TheVariants as kind
use Rattle.p9_lang.specs.Trees.{node, none, more}
use Rattle.p9_lang.specs.Modules.{Label, Typed, TypedRow}
use Rattle.p9_lang.specs.Parts.{is_declarator}
use Rattle.p9_lang.specs.Symbols.{name_label, first_label, initialiser, kind_of_node}
use Rattle.p9_nodes.specs.Names.{is_name}

named : (k : Kind) (label : Label) (parts : TypedRow) → name_label (node k label parts) ≡ (if is_name k then Some label else first_label parts)
named (kind.Declaration spec inits) label parts = refl
named (kind.Function spec) label parts = refl
named (kind.Member spec) label parts = refl
named (kind.EnumConst name valued) label parts = refl
named (kind.DeclName name) label parts = refl
named (kind.Star volatiles) label parts = refl
named (kind.Brackets inner sized) label parts = refl
named (kind.Params inner void_word) label parts = refl
named kind.DeclParens label parts = refl
named (kind.Param spec) label parts = refl
named (kind.NamedType spec) label parts = refl
named (kind.InitList comma) label parts = refl
named (kind.Entry by equals) label parts = refl
named kind.Block label parts = refl
named kind.Expression label parts = refl
named kind.If label parts = refl
named kind.While label parts = refl
named kind.Do label parts = refl
named (kind.For first test step) label parts = refl
named kind.Switch label parts = refl
named kind.Case label parts = refl
named kind.Default label parts = refl
named kind.Break label parts = refl
named kind.Continue label parts = refl
named kind.Return label parts = refl
named kind.Index label parts = refl
named kind.Call label parts = refl
named (kind.Dot arrow name) label parts = refl
named (kind.Post minus) label parts = refl
named (kind.Pre minus) label parts = refl
named (kind.Unary op) label parts = refl
named kind.SizeofValue label parts = refl
named kind.SizeofType label parts = refl
named kind.Cast label parts = refl
named (kind.Binary op) label parts = refl
named kind.Choose label parts = refl
named (kind.Assign op) label parts = refl
named kind.Comma label parts = refl
named kind.Parens label parts = refl
named (kind.Name x) label parts = refl
named (kind.Number n unsigned long) label parts = refl
named (kind.Character n) label parts = refl
named (kind.Text texts) label parts = refl

pub named_here : (k : Kind) (label : Label) (parts : TypedRow) (all : Option Label) → name_label (node k label parts) ≡ all → true ≡ is_name k → Some label ≡ all
named_here k label parts all h n = ap (λ b. if b then Some label else first_label parts) n ∙ sym (named k label parts) ∙ h

pub named_inside : (k : Kind) (label : Label) (parts others : TypedRow) (first : Typed) (all : Option Label) → name_label (node k label parts) ≡ all → false ≡ is_name k
    → parts ≡ more first others → name_label first ≡ all
named_inside k label parts others first all h n e =
    sym (ap first_label e) ∙ ap (λ b. if b then Some label else first_label parts) n ∙ sym (named k label parts) ∙ h

pub named_nowhere : (k : Kind) (label : Label) (parts : TypedRow) (all : Option Label) → name_label (node k label parts) ≡ all → false ≡ is_name k
    → parts ≡ none → None ≡ all
named_nowhere k label parts all h n e = sym (ap first_label e) ∙ ap (λ b. if b then Some label else first_label parts) n ∙ sym (named k label parts) ∙ h

pub first_is : (row others : TypedRow) (t : Typed) → row ≡ more t others → false ≡ is_declarator (kind_of_node t) → Some t ≡ initialiser row
first_is row others t e h = ap (λ b. if b then None else Some t) h ∙ ap initialiser (sym e)

pub declarator_first : (row others : TypedRow) (t : Typed) → row ≡ more t others → true ≡ is_declarator (kind_of_node t) → None ≡ initialiser row
declarator_first row others t e h = ap (λ b. if b then None else Some t) h ∙ ap initialiser (sym e)

pub none_first : (row : TypedRow) → row ≡ none → None ≡ initialiser row
none_first row e = ap initialiser (sym e)
