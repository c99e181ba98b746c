-- The tables' answers as those of the grammar's machine.
use Rattle.std.specs.Prelude.{◌≡◌, ⊤, Bool, true, false, ◌&&◌, ◌||◌, not, List, Option, Some, None}
use Rattle.std.specs.List.{list_any}
use Rattle.p9_lang.specs.declared.tree.SpecWord.{SpecWord}
use Rattle.p9_lang.specs.declared.tree.Kind.TheVariants as kind
use Rattle.p9_grammar.specs.Trees.{Tree, node}
use Rattle.p9_grammar.specs.Grammar as grammar
use Rattle.p9_grammar.specs.Symbols as symbols
use Rattle.p9_grammar.specs.Machine as machine
use Rattle.p9_tree_moves.specs.declared.moves.Move.{Move}
use Rattle.p9_tree_moves.specs.declared.moves.Move.TheVariants as move
use Rattle.p9_tree_moves.specs.declared.moves.Begin.{Begin}
use Rattle.p9_tree_moves.specs.declared.moves.Begin.TheVariants as begin
use Rattle.p9_tree_moves.specs.declared.moves.After.{After}
use Rattle.p9_tree_moves.specs.declared.moves.After.TheVariants as after
use Rattle.p9_tree_moves.specs.declared.moves.Join.{Join}
use Rattle.p9_tree_moves.specs.declared.moves.Join.TheVariants as join
use Rattle.p9_tree_moves.specs.declared.moves.Joined.{Joined}
use Rattle.p9_tree_moves.specs.declared.moves.Joined.TheVariants as joined
use Rattle.p9_tree_moves.specs.declared.joining.Infix.{Infix}
use Rattle.p9_tree_moves.specs.declared.words.WordShare.{WordShare}
use Rattle.p9_tree_moves.specs.declared.words.WordShare.TheVariants as word

abbrev pub move_of : Move → machine.Move
move_of (move.Shift h) = machine.Shift h
move_of (move.Ends k) = machine.Ends k
move_of (move.Opens h) = machine.Opens h
move_of (move.Over k) = machine.Over k
move_of move.Refused = machine.Refused

abbrev pub begin_of : Begin → machine.Begin
begin_of (begin.Pushes h) = machine.Pushes h
begin_of (begin.Leaf k) = machine.Leaf k
begin_of (begin.Under h) = machine.Under h
begin_of begin.Nowhere = machine.Nowhere

abbrev pub after_of : After → machine.After
after_of (after.To h) = machine.To h
after_of (after.Makes k) = machine.Makes k
after_of after.Unwanted = machine.Unwanted

abbrev pub join_of : Join → machine.Join
join_of (join.Joins h) = machine.Joins h
join_of (join.Posts k) = machine.Posts k
join_of join.Apart = machine.Apart

-- for the node before the token
abbrev pub joined_of : Tree → Joined → machine.Join
joined_of n (joined.Marked j) = join_of j
joined_of n (joined.Longer x) = machine.lengthen n x

abbrev pub is_text : Tree → Bool
is_text (node (kind.Text pieces) at parts) = true
is_text _ = false

-- only a text becomes longer
abbrev pub IsOfText : Tree → Joined → Type 0
IsOfText n (joined.Marked j) = ⊤
IsOfText n (joined.Longer x) = is_text n ≡ true

abbrev pub infix_of : Option Infix → machine.Infix
infix_of (Some i) = machine.Binds i.level i.left (join_of i.join)
infix_of None = machine.No

abbrev pub share_of : WordShare → grammar.Share
share_of word.Nothing = grammar.Nothing
share_of word.Storage = grammar.Storage
share_of word.Whole = grammar.Whole
share_of word.Sign = grammar.Sign
share_of word.Char = grammar.Char
share_of word.Int = grammar.Int
share_of word.Size = grammar.Size

-- whether a word with this part in a type may follow those
abbrev pub may_stand : (storage : Bool) → List SpecWord → grammar.Share → Bool
may_stand storage words s = (storage || not (grammar.is_storage s)) && not (list_any (λ v. grammar.excludes s (grammar.share v)) words)

-- a part that declares its name, as a type or not, or one that doesn't
abbrev pub role_of : Option Bool → symbols.Role
role_of None = symbols.Plain
role_of (Some is_type) = symbols.Declares is_type
