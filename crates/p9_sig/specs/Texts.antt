-- The text of a type, its signature: a letter for a number or void, marks for pointers, arrays and
-- functions, and each structure and union whole where its tag is met first.
use Rattle.std.specs.Prelude.{ℕ, zero, suc, ◌+◌, ◌*◌, ◌==◌, Bool, true, false, if◌then◌else◌, List, [], ◌∷◌, ◌++◌, map, length, slice_get, Option, Some, None, codes}
use Rattle.std.specs.Int.Digits.{digits_of}
use Rattle.p9_lang.specs.Names.{is_among}
use Rattle.p9_lang.specs.Types.{TypeTree, Void, Char, UChar, Short, UShort, Int, UInt, Long, ULong, Pointer, Array, Function, Tagged, TypeRow, none, more, MemberTree, TagTree, Tags}
use Rattle.p9_lang.specs.Agreement.{open_body}
use Rattle.p9_sig.specs.Parts.{Written, Part, writes, ◌⨟◌}

-- decimal digits without a zero in front
abbrev pub number_text : ℕ → List ℕ
number_text n = if n == 0 then codes "0" else map (λ d. 48 + d) (digits_of 10 n)

-- a structure stands in braces, a union in angle brackets
abbrev pub opening : (is_union : Bool) → List ℕ
opening false = codes "{"
opening true = codes "<"

abbrev pub closing : (is_union : Bool) → List ℕ
closing false = codes "}"
closing true = codes ">"

-- types, by what is written for structures and unions
abbrev mutual
  pub type_text : (ℕ → Part) → TypeTree → Part
  type_text tag Void = writes (codes "v")
  type_text tag Char = writes (codes "c")
  type_text tag UChar = writes (codes "C")
  type_text tag Short = writes (codes "s")
  type_text tag UShort = writes (codes "S")
  type_text tag Int = writes (codes "i")
  type_text tag UInt = writes (codes "I")
  type_text tag Long = writes (codes "l")
  type_text tag ULong = writes (codes "L")
  type_text tag (Pointer target) = writes (codes "*") ⨟ type_text tag target
  type_text tag (Array element n) = writes (codes "[") ⨟ writes (number_text n) ⨟ writes (codes "]") ⨟ type_text tag element
  type_text tag (Function result parameters) = writes (codes "(") ⨟ row_text tag parameters ⨟ writes (codes ")") ⨟ type_text tag result
  type_text tag (Tagged i) = tag i

  pub row_text : (ℕ → Part) → TypeRow → Part
  row_text tag none = writes []
  row_text tag (more first others) = type_text tag first ⨟ writes (codes ";") ⨟ row_text tag others

abbrev pub members_text : (ℕ → Part) → List MemberTree → Part
members_text tag [] = writes []
members_text tag (m ∷ ms) = writes m.name ⨟ writes (codes ":") ⨟ type_text tag m.type ⨟ writes (codes ";") ⨟ members_text tag ms

-- of a marked structure or union, or one without a body, only its tag
abbrev pub body_text : (ℕ → Part) → (is_union : Bool) → (name : List ℕ) → Option (List MemberTree) → Part
body_text tag is_union name None = writes (codes "?") ⨟ writes (opening is_union) ⨟ writes name ⨟ writes (closing is_union)
body_text tag is_union name (Some members) =
    writes (opening is_union) ⨟ writes name ⨟ writes (codes ":") ⨟ members_text tag members ⨟ writes (closing is_union)

-- whole where the tag is met first, and later only by its name; without a tag always whole
abbrev pub once : (name : List ℕ) → Part → Part
once [] whole met = whole met
once (b ∷ bs) whole met =
    if is_among met (b ∷ bs) then (writes (codes "@") ⨟ writes (b ∷ bs) ⨟ writes (codes ";")) met
    else whole (met ++ (b ∷ bs) ∷ [])

abbrev pub tag_text_by : (ℕ → Part) → Option TagTree → Part
tag_text_by tag None met = None
tag_text_by tag (Some t) met = once t.name (body_text tag t.is_union t.name (open_body t)) met

-- structures within structures, to a depth
abbrev pub tag_text : (depth : ℕ) → Tags → ℕ → Part
tag_text zero tags i met = None
tag_text (suc depth) tags i met = tag_text_by (tag_text depth tags) (slice_get tags i) met

-- A chain of structures, each written within the one before, is no longer: each tag stands once on
-- it, and between two tags, before the first and behind the last at most as many without a tag as
-- there are structures.
abbrev pub deepest : Tags → ℕ
deepest tags = length tags * length tags + length tags

abbrev pub text_in : Option Written → Option (List ℕ)
text_in None = None
text_in (Some w) = Some w.text

-- the text of a type
abbrev pub signature_text : Tags → TypeTree → Option (List ℕ)
signature_text tags type = text_in (type_text (tag_text (deepest tags) tags) type [])

-- no signature is longer
abbrev pub signature_limit : ℕ
signature_limit = 65536
