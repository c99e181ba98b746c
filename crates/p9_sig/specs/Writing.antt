-- What a writer writes in the end: the bytes that it has, the part that it writes now, and the tasks
-- that it keeps for later, of which the last comes first.
use Rattle.std.specs.Prelude.{◌≡◌, ℕ, Bool, List, [], ◌∷◌, Option, Some, IsSome, codes}
use Rattle.p9_lang.specs.declared.types.CType.{CType}
use Rattle.p9_lang.specs.declared.types.Member.{Member}
use Rattle.p9_lang.specs.Types.{Tags, type_of, types_of, type_row, members_of}
use Rattle.p9_sig.specs.declared.writer.Task.{Task}
use Rattle.p9_sig.specs.declared.writer.Task.TheVariants as task
use Rattle.p9_sig.specs.declared.writer.Writer.{Writer}
use Rattle.p9_sig.specs.Parts.{Part, writes, behind, ◌⨟◌}
use Rattle.p9_sig.specs.Texts.{type_text, row_text, members_text, closing, tag_text, deepest, text_in}

-- what is written for structures and unions is given

abbrev pub parameters_text : (ℕ → Part) → List CType → CType → Part
parameters_text tag others result = row_text tag (type_row (types_of others)) ⨟ writes (codes ")") ⨟ type_text tag (type_of result)

abbrev pub rest_of_body : (ℕ → Part) → List Member → (is_union : Bool) → Part
rest_of_body tag others is_union = members_text tag (members_of others) ⨟ writes (closing is_union)

abbrev pub task_text : (ℕ → Part) → Task → Part
task_text tag (task.Type type) = type_text tag (type_of type.now)
task_text tag (task.Parameters others result) = writes (codes ";") ⨟ parameters_text tag others.now result.now
task_text tag (task.Members others is_union) = writes (codes ";") ⨟ rest_of_body tag others.now is_union

abbrev pub tasks_text : (ℕ → Part) → List Task → Part
tasks_text tag [] = writes []
tasks_text tag (k ∷ ks) = tasks_text tag ks ⨟ task_text tag k

unfoldable pub final_text : (ℕ → Part) → (text : List ℕ) → (tasks : List Task) → (met : List (List ℕ)) → Part → Option (List ℕ)
final_text tag text tasks met now = text_in (behind text ((now ⨟ tasks_text tag tasks) met))

-- what is written in the end by a writer that writes a part now
abbrev pub final : (ℕ → Part) → Writer → Part → Option (List ℕ)
final tag w now = final_text tag w.text.items w.tasks.items w.met now

abbrev pub tag_part : Tags → ℕ → Part
tag_part tags = tag_text (deepest tags) tags

-- what was to be written still is
abbrev pub Keeps : Option (List ℕ) → Option (List ℕ) → Type 0
Keeps before after = (text : List ℕ) → before ≡ Some text → after ≡ Some text

-- WHAT A STEP DOES, from a writer to the same one later

-- bytes are written: what the later one writes now comes behind them
abbrev pub Puts : Writer → Writer → List ℕ → Type 0
Puts old new text = (tag : ℕ → Part) (now : Part) → final tag new now ≡ final tag old (writes text ⨟ now)

-- a task is kept: it comes behind what the later one writes now
abbrev pub KeepsTask : Writer → Writer → Task → Type 0
KeepsTask old new task = (tag : ℕ → Part) (now : Part) → final tag new now ≡ final tag old (now ⨟ task_text tag task)

-- a part is written or kept in tasks
abbrev pub TakesOn : Writer → Writer → ((ℕ → Part) → Part) → Type 0
TakesOn old new part = (tag : ℕ → Part) → final tag new (writes []) ≡ final tag old (part tag)

-- the same over given structures, where the part comes to an end

abbrev pub CanWrite : Tags → Writer → ((ℕ → Part) → Part) → Type 0
CanWrite tags old part = IsSome (final (tag_part tags) old (part (tag_part tags)))

abbrev pub TakesOnOver : Tags → Writer → Writer → ((ℕ → Part) → Part) → Type 0
TakesOnOver tags old new part = Keeps (final (tag_part tags) old (part (tag_part tags))) (final (tag_part tags) new (writes []))
