use Rattle.std.proofs.Common.{◌≡◌, Some, refl, subst}
use Rattle.p9_grammar.specs.Trees.{trees_of}
use Rattle.p9_grammar.specs.Machine.{run, file_start}
use Rattle.p9_terminal.specs.Terminals.{terminals}
use Rattle.p9_tree_reader.specs.Reading.{state_of}
use Rattle.p9_decl.specs.Walks.{Stops}
use Rattle.p9_parse.proofs.Walking.{end_is_read, read_from, read_tree, read_within, starts_within, stopped}
use Rattle.p9_parse.proofs.unit.parse.Goals as goal

pub read_all-requires : goal.read_all-requires
read_all-requires c = starts_within (state_of c.in_ok-first.first) c.in_ok-first.ensures

pub returns-in-Err-clause-refused : goal.returns-in-Err-clause-refused
returns-in-Err-clause-refused c =
    stopped c.args.tokens.now.list.items 0 c.in-Err.fault refl
    (subst (λ s. Stops s c.args.tokens.now.list.items 0 c.in-Err.fault) c.in_ok-first.ensures
    (subst (λ us. Stops (state_of c.in_ok-first.first) us 0 c.in-Err.fault) c.as_slice.ensures.value c.in-Err.ensures.stopped))

pub unreachable-requires : goal.unreachable-requires
unreachable-requires c =
    let r : run (Some file_start) (terminals c.args.tokens.now.list.items) ≡ Some (state_of c.in-Ok.reader) =
    read_from c.args.tokens.now.list.items _ (state_of c.in_ok-first.first) (state_of c.in-Ok.reader) c.in_ok-first.ensures c.as_slice.ensures.value c.in-Ok.ensures.read in
    end_is_read c.args.tokens.now.list.items (state_of c.in-Ok.reader) r c.requires c.in_default.ensures.unread

pub returns-clause-tree : goal.returns-clause-tree
returns-clause-tree c =
    let r : run (Some file_start) (terminals c.args.tokens.now.list.items) ≡ Some (state_of c.in-Ok.reader) =
    read_from c.args.tokens.now.list.items _ (state_of c.in_ok-first.first) (state_of c.in-Ok.reader) c.in_ok-first.ensures c.as_slice.ensures.value c.in-Ok.ensures.read in
    (read_tree c.args.tokens.now.list.items (state_of c.in-Ok.reader) (trees_of c.in-Some.items) r c.in-Some.ensures.read).0

pub returns-clause-text : goal.returns-clause-text
returns-clause-text c =
    let r : run (Some file_start) (terminals c.args.tokens.now.list.items) ≡ Some (state_of c.in-Ok.reader) =
    read_from c.args.tokens.now.list.items _ (state_of c.in_ok-first.first) (state_of c.in-Ok.reader) c.in_ok-first.ensures c.as_slice.ensures.value c.in-Ok.ensures.read in
    (read_tree c.args.tokens.now.list.items (state_of c.in-Ok.reader) (trees_of c.in-Some.items) r c.in-Some.ensures.read).1

pub returns-clause-height : goal.returns-clause-height
returns-clause-height c = (read_within (state_of c.in-Ok.reader) (trees_of c.in-Some.items) c.in-Some.ensures.read c.in-Ok.ensures.read.1).0

pub returns-clause-nodes : goal.returns-clause-nodes
returns-clause-nodes c = (read_within (state_of c.in-Ok.reader) (trees_of c.in-Some.items) c.in-Some.ensures.read c.in-Ok.ensures.read.1).1
