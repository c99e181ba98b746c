-- The runs.
use Rattle.std.proofs.Common.{ℕ, zero, suc, ◌*◌, ◌^◌, ◌≡◌, ◌<◌, List, [], ◌∷◌, length, slice_get, Some, refl, ap, ◌∙◌, subst, arith}
use Rattle.std.proofs.lemmas.List.Elements.{All-head, All-tail}
use Rattle.p9_base.specs.Core.{text_start}
use Rattle.p9_base.specs.Numbers.{word_at}
use Rattle.p9_base.specs.declared.order.ByteOrder.TheVariants.{Big}
use Rattle.p9_r3k.proofs.Begins.{start-laid, run-word}
use Rattle.p9_r3k.proofs.Kept.{run-keeps}
use Rattle.p9_r3k.specs.Delayed.{line_address, delayed_step, delayed_run}
use Rattle.p9_r3k.specs.Laws.{ImageFits}
use Rattle.p9_r3k.specs.Machine.{State, run}
use Rattle.p9_r3k.specs.Table.{Fits, word_of}
use Rattle.p9_r3k.specs.declared.lines.Line.{Line}
use Rattle.p9_image.proofs.Fitting.{patched_fits}
use Rattle.p9_image.specs.Text.{address_at, patched, text_bytes, LinesFit}
use Rattle.p9_image_laws.proofs.Stepping.{HasText, step_same}
use Rattle.p9_image_laws.proofs.Texts.{text_size, text_word}
use Rattle.p9_image_laws.specs.Reaching.{LinesReach}
use Rattle.p9_image_laws.specs.Running.{start_of_lines}

within : (lines : List Line) (i : ℕ) (line : Line) → slice_get lines i ≡ Some line → i < length lines
within [] i line e = cc
within (l ∷ ls) zero line e = omega arith
within (l ∷ ls) (suc i) line e = (let r = within ls i line e in omega (arith, r))

fit_at : (lines : List Line) (i : ℕ) (line : Line) → LinesFit lines → slice_get lines i ≡ Some line → Fits line.inst
fit_at [] i line fit e = cc
fit_at (l ∷ ls) zero line fit e = (let same : l ≡ line = cc in subst (λ (x : Line). Fits x.inst) same (All-head (λ (x : Line). Fits x.inst) l ls fit))
fit_at (l ∷ ls) (suc i) line fit e = fit_at ls i line (All-tail (λ (x : Line). Fits x.inst) l ls fit) e

has_text : (tables : List (List ℕ)) (lines : List Line) (init : List ℕ) (bss : ℕ) (input : List ℕ) (n : ℕ) → LinesFit lines → ImageFits (text_bytes tables lines) init bss →
    HasText tables lines (run n (start_of_lines tables lines init bss input)).core
has_text tables lines init bss input n fit fits =
    let text : List ℕ = text_bytes tables lines in
    let s : State = start_of_lines tables lines init bss input in
    let size : length text ≡ 4 * length lines = text_size tables 0 lines in
    record {
      end = (run-keeps n s (start-laid text init bss text_start input fits)).text_end ∙ omega (arith, size);
      words = λ i line e.
          (let w : i < length lines = within lines i line e in
          run-word Big text init bss text_start input n (line_address i) fits (omega arith) (omega (arith, size, w))
          ∙ (ap (λ z. word_at text z) (omega arith) ∙ (text_word tables 0 i lines line fit e ∙ ap (λ (n : ℕ). word_of (patched tables n line)) (omega arith))));
      fit = λ i line e. patched_fits tables i line (fit_at lines i line fit e);
    }

pub runs_its_lines : (tables : List (List ℕ)) (lines : List Line) (init : List ℕ) (bss : ℕ) (input : List ℕ) (line : ℕ → ℕ) (n : ℕ) →
    LinesFit lines → LinesReach lines → line_address (length lines) < 2 ^ 28 → ImageFits (text_bytes tables lines) init bss →
    run n (start_of_lines tables lines init bss input) ≡ delayed_run (record { line = line; symbol = address_at tables }) lines n (start_of_lines tables lines init bss input)
unfolding run delayed_run
runs_its_lines tables lines init bss input line zero fit reach small fits = refl
runs_its_lines tables lines init bss input line (suc n) fit reach small fits =
    let s0 : State = start_of_lines tables lines init bss input in
    step_same tables line lines (run n s0) reach small (has_text tables lines init bss input n fit fits)
    ∙ ap (delayed_step (record { line = line; symbol = address_at tables }) lines) (runs_its_lines tables lines init bss input line n fit reach small fits)
