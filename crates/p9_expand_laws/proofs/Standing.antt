-- The lines of entries, instructions and the start stand.
use Rattle.std.proofs.Common.{ℕ, suc, ◌+◌, ◌≡◌, ◌<◌, ◌||◌, Bool, get_or, Some, List, [], ◌++◌, length, length-append, take, drop, map, append_assoc, refl, sym, ap, ◌∙◌, subst, All, arith}
use Rattle.std.specs.Prelude.{slice_get}
use Rattle.p9_abs.specs.declared.modules.AModule.{AModule}
use Rattle.p9_abs.specs.Forms.{decoded}
use Rattle.p9_abs.specs.BuiltIn.{linked}
use Rattle.p9_abs.specs.Programs.{routines_of, definition_of}
use Rattle.p9_abs.specs.Validity.{IsValid}
use Rattle.p9_r3k.specs.declared.lines.Line.{Line}
use Rattle.p9_slot.specs.Aimed.{AreAimed}
use Rattle.p9_slot.specs.Blocks.{is_named}
use Rattle.p9_lines.specs.FormLines.{lines_of, entry_lines, start_lines}
use Rattle.p9_pieces.specs.Callees.{callee_in}
use Rattle.p9_pieces.specs.Ways.{Scope, setting_of, scope_of, way_of}
use Rattle.p9_pieces.specs.Pieces.{Piece, form_lines, code_pieces, function_pieces, pieces_from, joined}
use Rattle.p9_forms.specs.Standing.{Stand}
use Rattle.p9_expand.specs.Base.{argument_list, base_offset}
use Rattle.p9_expand.specs.Program.{aimed, is_first, marked, starts_of, program_lines}
use Rattle.p9_expand.proofs.Valid.{all_sound}
use Rattle.p9_expand.proofs.Leading.{numbers_of, pieces_length, callee_below, pieces_aimed}
use Rattle.p9_expand_laws.specs.Standing.{entry_of, line_of, StandsAt, scope_in, EntriesStand, InstructionsStand, StartStands}
use Rattle.p9_expand_laws.proofs.Among.{stands-among, aimed-first, aimed-rest}
use Rattle.p9_expand_laws.proofs.Numbered.{split, joined-longer, starts-at, code-piece, piece-at}

abbrev pieces_of : List AModule → List Piece
pieces_of modules = pieces_from (callee_in modules) 0 (routines_of modules)

abbrev start_of : List AModule → List Line
start_of modules = start_lines (length modules) argument_list (base_offset modules)

abbrev raw_of : List AModule → List Line
raw_of modules = start_of modules ++ joined (pieces_of modules)

abbrev test_of : List AModule → ℕ → Bool
test_of modules i =
    is_first (starts_of (callee_in modules) (routines_of modules)) 0 (routines_of modules) i
    || is_named (map (aimed (starts_of (callee_in modules) (routines_of modules))) (raw_of modules)) i

lines-aimed : (modules : List AModule) → All IsValid modules → AreAimed (numbers_of (routines_of modules)) (joined (pieces_of modules))
lines-aimed modules h =
    pieces_aimed (numbers_of (routines_of modules)) (callee_in modules) 0 (routines_of modules)
    (λ u s t e. callee_below (routines_of modules) (definition_of (linked modules) (record { «module» = u; symbol = s })) t e)
    (omega arith) (all_sound modules h)

places-same : (modules : List AModule) (t : ℕ) → t < numbers_of (routines_of modules) →
    get_or (starts_of (callee_in modules) (routines_of modules)) t 0 ≡ line_of modules t
places-same modules t h =
    starts-at 2 (pieces_of modules) t (subst (λ n. t < n) (sym (pieces_length (callee_in modules) 0 (routines_of modules))) h)

piece-stands : (modules : List AModule) (i : ℕ) (p : Piece) → All IsValid modules → slice_get (pieces_of modules) i ≡ Some p → StandsAt modules i p
piece-stands modules i p h e =
    let ps = pieces_of modules in
    let rs = routines_of modules in
    let starts = starts_of (callee_in modules) rs in
    let front : List Line = joined (take i ps) in
    let back : List Line = joined (drop (suc i) ps) in
    let all : joined ps ≡ front ++ (p ++ back) = split ps i p e in
    let own : AreAimed (numbers_of rs) p =
    aimed-first (numbers_of rs) p back (aimed-rest (numbers_of rs) front (p ++ back) (subst (AreAimed (numbers_of rs)) all (lines-aimed modules h))) in
    let raw : (start_of modules ++ front) ++ (p ++ back) ≡ raw_of modules =
    append_assoc (start_of modules) front (p ++ back) ∙ ap (λ l. start_of modules ++ l) (sym all) in
    let before : length (start_of modules ++ front) ≡ line_of modules i = length-append (start_of modules) front in
    record {
      there =
          subst (λ n. Stand (program_lines modules) (line_of modules) n p) before
          (subst (λ l. Stand (marked (test_of modules) 0 (map (aimed starts) l)) (line_of modules) (length (start_of modules ++ front)) p) raw
          (stands-among (test_of modules) starts (line_of modules) (numbers_of rs) (places-same modules) (start_of modules ++ front) p back own));
      next =
          let longer : length (joined (take (suc i) ps)) ≡ length front + length p = joined-longer ps i p e in
          let one : i + 1 ≡ suc i = omega arith in
          let up : length (joined (take (i + 1) ps)) ≡ length (joined (take (suc i) ps)) = ap (λ n. length (joined (take n ps))) one in
          omega (arith, longer, up);
    }

pub entries_stand : EntriesStand
entries_stand modules f r h e =
    piece-stands modules (entry_of modules f) (entry_lines (setting_of r)) h
    (ap (slice_get (pieces_of modules)) (omega arith) ∙ piece-at (callee_in modules) 0 (routines_of modules) f r 0 (entry_lines (setting_of r)) e refl)

pub instructions_stand : InstructionsStand
instructions_stand modules f k r a form h e there decodes =
    let s : Scope = scope_in modules f r in
    let piece : Piece = lines_of s.setting (way_of s k form) form in
    let zero_scope : scope_of (callee_in modules) (0 + entry_of modules f) r ≡ s = ap (λ n. scope_of (callee_in modules) n r) (omega arith) in
    let inside : slice_get (code_pieces s 0 r.def.code) k ≡ Some piece =
    code-piece s 0 k r.def.code a there ∙ ap (λ n. Some (form_lines s n (decoded a))) (omega arith) ∙ ap (λ o. Some (form_lines s k o)) decodes in
    let own : slice_get (function_pieces (scope_of (callee_in modules) (0 + entry_of modules f) r) r.def.code) (suc k) ≡ Some piece =
    ap (λ z. slice_get (function_pieces z r.def.code) (suc k)) zero_scope ∙ inside in
    piece-stands modules (s.first + k) piece h
    (ap (slice_get (pieces_of modules)) (omega arith) ∙ piece-at (callee_in modules) 0 (routines_of modules) f r (suc k) piece e own)

pub start_stands : StartStands
start_stands modules h =
    stands-among (test_of modules) (starts_of (callee_in modules) (routines_of modules)) (line_of modules) (numbers_of (routines_of modules)) (places-same modules)
    [] (start_of modules) (joined (pieces_of modules)) (refl, (refl, tt))
