-- The reading of a file in the words of the code, which cuts slices.
use Rattle.std.proofs.Common.{◌≡◌, ℕ, ◌-◌, ◌<◌, ◌≤◌, List, [], ◌∷◌, ◌++◌, length, take, drop, get_or, Option, Some, None, refl, sym, ap, subst, ◌∙◌, length-append, length-drop, arith}
use Rattle.std.proofs.Math.Seq.{take-length}
use Rattle.p9_first.specs.Tokens.{Token}
use Rattle.p9_form.specs.declared.token.Token as code
use Rattle.p9_form.specs.declared.token.Token.TheVariants as variant
use Rattle.p9_form.specs.declared.scan.Found.{Found}
use Rattle.p9_form.specs.Spelling.{Spells}
use Rattle.p9_form.specs.Scanning.{token_seen, seen, AreFormTokens, after_blanks, token_at}
use Rattle.p9_form.proofs.ScanCases.{IfSome_at}
use Rattle.p9_form.proofs.ScanTokens.{IsCut, token_sound}
use Rattle.p9_form.proofs.ScanLoop.{after_blanks_shorter, IsScanned, scanned_start, scanned_step, IsTokenised, scanned_end, scanned_refused}

slice_rest : (n : ℕ) (s : List ℕ) → take (length s - n) (drop n s) ≡ drop n s
slice_rest n s = ap (λ m. take m (drop n s)) (sym (length-drop n s)) ∙ take-length (drop n s)

pub slice_front : (s : List ℕ) → 1 ≤ length s → s ≡ get_or s 0 0 ∷ take (length s - 1) (drop 1 s)
slice_front [] h = absurd (omega (arith, h))
slice_front (b ∷ s) h = ap (λ r. b ∷ r) (sym (slice_rest 1 (b ∷ s)))

seen_push : (list : List code.Token) (t : code.Token) → seen (list ++ t ∷ []) ≡ seen list ++ token_seen t ∷ []
seen_push [] t = refl
seen_push (u ∷ us) t = ap (λ ts. token_seen u ∷ ts) (seen_push us t)

-- the token that the code finds in front of these bytes
abbrev pub IsFoundIn : List ℕ → Option Found → Type 0
IsFoundIn left answer = answer ≡ token_at (get_or left 0 0) (take (length left - 1) (drop 1 left))

pub start_of_code : (bytes left : List ℕ) (list : List code.Token) → list ≡ [] → left ≡ after_blanks bytes → IsScanned bytes (seen list) left
start_of_code bytes left list none at = subst (λ l. IsScanned bytes (seen l) left) (sym none) (subst (IsScanned bytes []) (sym at) (scanned_start bytes))

pub found_inside : (left : List ℕ) (f : Found) → 1 ≤ length left → IsFoundIn left (Some f) → (1 ≤ f.length) × (f.length ≤ length left)
found_inside left f some found =
    let first = get_or left 0 0 in
    let more = take (length left - 1) (drop 1 left) in
    let of : IsCut (first ∷ more) f = IfSome_at (IsCut (first ∷ more)) (token_at first more) f (sym found) (token_sound first more) in
    (omega (arith, of.some, of.size), omega (arith, of.size, ap length (slice_front left some ∙ of.cut), length-append of.own of.rest))

pub step_of_code : (bytes left next : List ℕ) (list longer : List code.Token) (f : Found) → IsScanned bytes (seen list) left → 1 ≤ length left → IsFoundIn left (Some f) → longer ≡ list ++ f.token ∷ [] → next ≡ after_blanks (take (length left - f.length) (drop f.length left)) → IsScanned bytes (seen longer) next
step_of_code bytes left next list longer f is some found pushed at =
    let made = scanned_step bytes (seen list) (get_or left 0 0) (take (length left - 1) (drop 1 left)) left f is (slice_front left some) (sym found) in
    let here : IsScanned bytes (seen list ++ token_seen f.token ∷ []) next = subst (IsScanned bytes (seen list ++ token_seen f.token ∷ [])) (sym (at ∙ ap after_blanks (slice_rest f.length left))) made in
    subst (λ ts. IsScanned bytes ts next) (sym (ap seen pushed ∙ seen_push list f.token)) here

pub shorter_in_code : (left next : List ℕ) (f : Found) → 1 ≤ length left → IsFoundIn left (Some f) → next ≡ after_blanks (take (length left - f.length) (drop f.length left)) → length next < length left
shorter_in_code left next f some found at =
    let inside = found_inside left f some found in
    omega (arith, inside, ap length at, ap length (ap after_blanks (slice_rest f.length left)), after_blanks_shorter (drop f.length left), length-drop f.length left)

pub end_of_code : (bytes left : List ℕ) (list longer : List code.Token) → IsScanned bytes (seen list) left → length left < 1 → longer ≡ list ++ variant.End ∷ [] → IsTokenised bytes (seen longer)
end_of_code bytes [] list longer is none pushed = subst (IsTokenised bytes) (sym (ap seen pushed ∙ seen_push list variant.End)) (scanned_end bytes (seen list) is)
end_of_code bytes (b ∷ s) list longer is none pushed = absurd (omega (arith, none))

pub refused_in_code : (bytes left : List ℕ) (list : List code.Token) → IsScanned bytes (seen list) left → 1 ≤ length left → IsFoundIn left None → (ts : List Token) → AreFormTokens ts → Spells ts bytes → ⊥
refused_in_code bytes left list is some none =
    scanned_refused bytes (seen list) (get_or left 0 0) (take (length left - 1) (drop 1 left)) left is (slice_front left some) (sym none)
