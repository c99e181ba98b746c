-- What the walk over nodes goes through.
use Rattle.std.specs.Prelude.{◌≡◌, ℕ, List, [], Result, Ok, Err}
use Rattle.p9_lang.specs.declared.tree.Kind.{Kind}
use Rattle.p9_lang.specs.Trees.{Syntax, SyntaxRow}
use Rattle.p9_lang.specs.Rules.{and_then}
use Rattle.p9_lang.specs.Scopes.{Known}
use Rattle.p9_lang.specs.Parts.{Context, Part, Frame, Judged, kind_at}
use Rattle.p9_lang.specs.Opening.{opened, context}
use Rattle.p9_lang.specs.Declaring.{behind}
use Rattle.p9_lang.specs.Typing.{judge, judge_parts, judged}
use Rattle.p9_declare.specs.declared.fault.TypingFault.{TypingFault}
use Rattle.p9_declare.specs.declared.fault.TypingFault.TheVariants as fault

-- a node that is open
abbrev pub judged_within : Kind → SyntaxRow → Frame → Known → Judged
judged_within k parts f s = and_then (judge_parts k f [] parts s) (λ r. judged k f r.0 r.1)

-- a node, but for the rules that it breaks by its role
abbrev pub judged_inside : Kind → SyntaxRow → Context → Known → Judged
judged_inside k parts c s = judged_within k parts (opened k c s).0 (opened k c s).1

-- a part, and what it means to its node
abbrev pub judged_part : Kind → Frame → List Part → Syntax → SyntaxRow → Known → Judged
judged_part k f before t ts s = and_then (judge t (context k f before (kind_at t) s) s) (λ r. behind k f before r.0 ts r.1)

-- so many nodes are counted, but for want of memory

abbrev pub CountsAt : TypingFault → (nodes count : ℕ) → Type 0
CountsAt (fault.Broken node rule) nodes count = nodes ≡ count
CountsAt fault.Memory nodes count = Unit {0}

abbrev pub Counts : {A : Type 0} → Result A TypingFault → (nodes count : ℕ) → Type 0
Counts (Ok x) nodes count = nodes ≡ count
Counts (Err fault) nodes count = CountsAt fault nodes count
