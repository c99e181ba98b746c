-- Parts one behind another, and what a writer writes in the end.
use Rattle.std.proofs.Common.{◌≡◌, ℕ, List, [], ◌∷◌, ◌++◌, append_assoc, append-nil, Option, Some, None, refl, sym, ap, ◌∙◌}
use Rattle.p9_sig.specs.declared.writer.Task.{Task}
use Rattle.p9_sig.specs.Parts.{Written, Part, writes, behind, continued, ◌⨟◌}
use Rattle.p9_sig.specs.Texts.{text_in}
use Rattle.p9_sig.specs.Writing.{task_text, tasks_text, final_text}

behind_twice : (xs ys : List ℕ) (o : Option Written) → behind (xs ++ ys) o ≡ behind xs (behind ys o)
behind_twice xs ys None = refl
behind_twice xs ys (Some w) = ap (λ t. Some (record { text = t; met = w.met })) (append_assoc xs ys w.text)

behind_none : (o : Option Written) → behind [] o ≡ o
behind_none None = refl
behind_none (Some w) = refl

continued_behind : (xs : List ℕ) (o : Option Written) (next : Part) → continued (behind xs o) next ≡ behind xs (continued o next)
continued_behind xs None next = refl
continued_behind xs (Some w) next = behind_twice xs w.text (next w.met)

continued_twice : (o : Option Written) (b c : Part) → continued (continued o b) c ≡ continued o (b ⨟ c)
continued_twice None b c = refl
continued_twice (Some w) b c = continued_behind w.text (b w.met) c

continued_end : (o : Option Written) → continued o (writes []) ≡ o
continued_end None = refl
continued_end (Some w) = ap (λ t. Some (record { text = t; met = w.met })) (append-nil w.text)

pub grouped : (a b c : Part) → (a ⨟ b) ⨟ c ≡ a ⨟ (b ⨟ c)
grouped a b c = λ i met. continued_twice (a met) b c i

pub nothing_first : (a : Part) → writes [] ⨟ a ≡ a
nothing_first a = λ i met. behind_none (a met) i

pub nothing_last : (a : Part) → a ⨟ writes [] ≡ a
nothing_last a = λ i met. continued_end (a met) i

pub tasks_push : (tag : ℕ → Part) (ks : List Task) (k : Task) → tasks_text tag (ks ++ k ∷ []) ≡ task_text tag k ⨟ tasks_text tag ks
tasks_push tag [] k = nothing_first (task_text tag k) ∙ sym (nothing_last (task_text tag k))
tasks_push tag (j ∷ ks) k = ap (λ a. a ⨟ task_text tag j) (tasks_push tag ks k) ∙ grouped (task_text tag k) (tasks_text tag ks) (task_text tag j)

-- FINAL TEXTS

pub final_put : (tag : ℕ → Part) (text xs new : List ℕ) (tasks : List Task) (met : List (List ℕ)) (now : Part) → new ≡ text ++ xs
    → final_text tag new tasks met now ≡ final_text tag text tasks met (writes xs ⨟ now)
unfolding final_text
final_put tag text xs new tasks met now e =
    ap (λ t. text_in (behind t ((now ⨟ tasks_text tag tasks) met))) e
    ∙ ap text_in (behind_twice text xs ((now ⨟ tasks_text tag tasks) met))
    ∙ ap (λ (a : Part). text_in (behind text (a met))) (sym (grouped (writes xs) now (tasks_text tag tasks)))

pub final_keep : (tag : ℕ → Part) (text : List ℕ) (tasks : List Task) (k : Task) (new : List Task) (met : List (List ℕ)) (now : Part)
    → new ≡ tasks ++ k ∷ []
    → final_text tag text new met now ≡ final_text tag text tasks met (now ⨟ task_text tag k)
unfolding final_text
final_keep tag text tasks k new met now e =
    ap (λ ks. text_in (behind text ((now ⨟ tasks_text tag ks) met))) e
    ∙ ap (λ (a : Part). text_in (behind text ((now ⨟ a) met))) (tasks_push tag tasks k)
    ∙ ap (λ (a : Part). text_in (behind text (a met))) (sym (grouped now (task_text tag k) (tasks_text tag tasks)))
