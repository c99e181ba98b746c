-- The functions of a typed module are sound.
use Rattle.std.proofs.Common.{◌≡◌, Bool, true, false, if◌then◌else◌, ◌++◌, Option, Some, None, sym, subst}
use Rattle.p9_lang.specs.declared.tree.CBinary.TheVariants as operator
use Rattle.p9_lang.specs.declared.tree.Kind.{Kind}
use Rattle.p9_lang.specs.declared.tree.Kind.TheVariants as kind
use Rattle.p9_lang.specs.Trees.{node, none, more, row_of}
use Rattle.p9_lang.specs.Types.{TypeTree}
use Rattle.p9_lang.specs.Parts.{is_declarator}
use Rattle.p9_lang.specs.Symbols.{kind_of_node, name_label}
use Rattle.p9_lang.specs.Modules.{Label, Typed, TypedRow, Source, source_of}
use Rattle.p9_lang.specs.Files.{typing_in}
use Rattle.p9_cmean.specs.Declarations.{Definition, defined_by, definition_in, definition_of}
use Rattle.p9_cmean.specs.Union.{parameter_types, types_within}
use Rattle.p9_lower.specs.Names.{Setting}
use Rattle.p9_lower.specs.Modules.{setting_of, result_of}
use Rattle.p9_lower.specs.Premises.{function_setting, ItemIsSound}
use Rattle.p9_sound.specs.Nodes.{TreeIsTyped, RowIsTyped}
use Rattle.p9_sound.specs.Expressions.{NodeIsPlain, TreeIsPlain, RowIsPlain}
use Rattle.p9_sound.specs.Items.{FunctionIsSound, FunctionsAreSound}
use Rattle.p9_sound.specs.Functions.{IsNumbered, FunctionIsNumbered, FunctionsAreNumberedIn}
use Rattle.p9_sound.specs.Sources.{TypedItemsAreSound}
use Rattle.p9_sound.proofs.Nodes.{nodes_are_typed}
use Rattle.p9_sound.proofs.Statements.{numbered_blocks_are_known, typed_statements_are_sound}
use Rattle.p9_sound.proofs.Items.{code_items_are_sound}
use Rattle.p9_sound.proofs.Functions.{functions_are_numbered}

-- THE RESULT of a function plays no part in what is plain

plain_node : (setting : Setting) (result : TypeTree) (k : Kind) (label : Label) (parts : TypedRow) → NodeIsPlain setting k label parts
    → NodeIsPlain (record setting { result = result }) k label parts
plain_node setting result (kind.Name x) label parts h = h
plain_node setting result (kind.Text texts) label parts h = h
plain_node setting result (kind.Number value unsigned long) label parts h = h
plain_node setting result (kind.Character value) label parts h = h
plain_node setting result (kind.Assign (Some op)) label parts h = h
plain_node setting result (kind.Binary operator.Sub) label (more left others) h = h
plain_node setting result k label parts h = tt

mutual
  plain_tree : (setting : Setting) (result : TypeTree) (e : Typed) → TreeIsPlain setting e → TreeIsPlain (record setting { result = result }) e
  plain_tree setting result (node k label parts) h = (plain_node setting result k label parts h.0, plain_row setting result parts h.1)

  plain_row : (setting : Setting) (result : TypeTree) (parts : TypedRow) → RowIsPlain setting parts → RowIsPlain (record setting { result = result }) parts
  plain_row setting result none h = tt
  plain_row setting result (more first others) h = (plain_tree setting result first h.0, plain_row setting result others h.1)

-- THE BLOCK of a function is one of its parts

abbrev BlockFits : Setting → Definition → Type 0
BlockFits setting d = TreeIsTyped setting.tags d.block × TreeIsPlain setting d.block

block_by : (setting : Setting) (label : Label) (o : Option Label) (next : Typed) (d : Definition) → TreeIsTyped setting.tags next → TreeIsPlain setting next
    → defined_by label o next ≡ Some d → BlockFits setting d
block_by setting label None next d t p e = cc
block_by setting label (Some name) next d t p e =
    let z : record { label = label; name = name; block = next } ≡ d = cc in
    subst (λ x. BlockFits setting x) z (t, p)

block_if : (setting : Setting) (b : Bool) (first second : Option Definition) (d : Definition) → (first ≡ Some d → BlockFits setting d) → (second ≡ Some d → BlockFits setting d)
    → (if b then first else second) ≡ Some d → BlockFits setting d
block_if setting true first second d h g e = h e
block_if setting false first second d h g e = g e

block_fits : (setting : Setting) (label : Label) (row : TypedRow) (d : Definition) → RowIsTyped setting.tags row → RowIsPlain setting row → definition_in label row ≡ Some d
    → BlockFits setting d
block_fits setting label none d t p e = cc
block_fits setting label (more block none) d t p e = cc
block_fits setting label (more part (more next others)) d t p e =
    block_if setting (is_declarator (kind_of_node part)) (defined_by label (name_label part) next) (definition_in label (more next others)) d
    (λ h. block_by setting label (name_label part) next d t.1.0 p.1.0 h)
    (λ h. block_fits setting label (more next others) d t.1 p.1 h) e

-- FUNCTIONS

item_sound : (m : Source) (item : Typed) → IsNumbered item → ((d : Definition) → definition_of item ≡ Some d → BlockFits (setting_of m) d) → ItemIsSound m (definition_of item)
item_sound m item n h =
    let d = n.definition in
    let fits = h d n.is in
    subst (λ o. ItemIsSound m o) (sym n.is)
    (typed_statements_are_sound (function_setting m d) (parameter_types d.name.type ++ types_within d.block) d.block fits.0
    (plain_tree (setting_of m) (result_of d.name.type) d.block fits.1)
    (numbered_blocks_are_known (parameter_types d.name.type) d.block n.to n.numbered))

function_sound : (m : Source) (item : Typed) → TreeIsTyped m.tags item → TreeIsPlain (setting_of m) item → FunctionIsNumbered item → FunctionIsSound m item
function_sound m (node (kind.Function spec) label parts) t p n =
    item_sound m (node (kind.Function spec) label parts) n (λ d e. block_fits (setting_of m) label parts d t.1 p.1 e)
function_sound m (node k label parts) t p n = tt

functions_sound : (m : Source) (items : TypedRow) → RowIsTyped m.tags items → RowIsPlain (setting_of m) items → FunctionsAreNumberedIn items → FunctionsAreSound m items
functions_sound m none t p n = tt
functions_sound m (more item items) t p n = (function_sound m item t.0 p.0 n.0, functions_sound m items t.1 p.1 n.1)

pub typed_items_are_sound : TypedItemsAreSound
typed_items_are_sound m e h p =
    code_items_are_sound (source_of m)
    (functions_sound (source_of m) (source_of m).items (nodes_are_typed (row_of m.tree.items) m.tree.marks (typing_in m) e) p
    (functions_are_numbered (row_of m.tree.items) m.tree.marks (typing_in m) e h))
