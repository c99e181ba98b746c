-- Symbols of the program, as plain data.
use Rattle.std.specs.Prelude.{ℕ, List, [], ◌∷◌, ◌++◌, map, Option, Some, None, Ok, codes, decimal}
use Rattle.p9_lang.specs.declared.module.Module.{Module}
use Rattle.p9_lang.specs.Types.{type_of, tags_of}
use Rattle.p9_lang.specs.Initialisers.{Bytes, text_bytes, first_writes}
use Rattle.p9_lang.specs.Symbols.{Symbol, SymbolKind, DeclaredOnly, Used, Code, Data, Common}
use Rattle.p9_nodes.specs.Nodes.{node_in}
use Rattle.p9_numbering.specs.declared.symbol.Form.{Form}
use Rattle.p9_numbering.specs.declared.symbol.Form.TheVariants as form
use Rattle.p9_numbering.specs.declared.symbol.Title.{Title}
use Rattle.p9_numbering.specs.declared.symbol.Title.TheVariants as title
use Rattle.p9_numbering.specs.declared.symbol.OutlineSymbol.{OutlineSymbol}

abbrev pub told_form : Module → Form → SymbolKind
told_form m form.DeclaredOnly = DeclaredOnly
told_form m form.Used = Used
told_form m (form.Code item) = Code (node_in m item)
told_form m (form.Initial type value) = Data (first_writes (tags_of m.tags.list) (type_of type.now) (node_in m value))
told_form m (form.Text type texts) =
    Data (Ok (record { offset = 0; type = type_of type.now; content = Bytes (text_bytes texts.now ++ 0 ∷ []) } ∷ []))
told_form m form.Common = Common

abbrev pub told_name : Title → List ℕ
told_name (title.Outer name) = name
told_name (title.Static number) = codes "." ++ decimal number

abbrev pub told_static : Title → Option ℕ
told_static (title.Outer name) = None
told_static (title.Static number) = Some number

abbrev pub told_symbol : Module → OutlineSymbol → Symbol
told_symbol m s = record {
  name = told_name s.title;
  static = told_static s.title;
  is_local = s.is_local;
  type = type_of s.ty;
  kind = told_form m s.form;
}

abbrev pub symbols_told : Module → List OutlineSymbol → List Symbol
symbols_told m ss = map (told_symbol m) ss
