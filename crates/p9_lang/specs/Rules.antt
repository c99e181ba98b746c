-- The rules that a file may break behind its grammar, and which of several is told: the one at the
-- first node in the order of numbers, and there the one with the least number.
use Rattle.std.specs.Prelude.{ℕ, Bool, true, false, ◌&&◌, ◌||◌, ◌==◌, nat_lt, if◌then◌else◌, List, [], ◌∷◌, Result, Ok, Err}

pub data Rule : Type 0 where
  -- the tree isn't one of the grammar
  Malformed : Rule
  Incomplete : Rule
  Ambiguous : (name : List ℕ) → Rule
  Undeclared : (name : List ℕ) → Rule
  Redeclared : (name : List ℕ) → Rule
  NotLvalue : Rule
  BadOperands : Rule
  BadAssign : Rule
  NotFunction : Rule
  ArgCount : Rule
  NoMember : (name : List ℕ) → Rule
  NotScalar : Rule
  BadConstant : Rule
  BadReturn : Rule
  Misplaced : Rule
  TooManyItems : Rule

abbrev pub rule_number : Rule → ℕ
rule_number Malformed = 10
rule_number Incomplete = 13
rule_number (Ambiguous name) = 14
rule_number (Undeclared name) = 15
rule_number (Redeclared name) = 16
rule_number NotLvalue = 17
rule_number BadOperands = 18
rule_number BadAssign = 19
rule_number NotFunction = 20
rule_number ArgCount = 21
rule_number (NoMember name) = 22
rule_number NotScalar = 23
rule_number BadConstant = 24
rule_number BadReturn = 25
rule_number Misplaced = 26
rule_number TooManyItems = 28

-- a rule that a node breaks, by the node's number
pub record Broken : Type 0 where
  pub node : ℕ
  pub rule : Rule

abbrev pub at_node : ℕ → Rule → Broken
at_node node rule = record { node = node; rule = rule }

abbrev pub is_before : Broken → Broken → Bool
is_before a b = nat_lt a.node b.node || ((a.node == b.node) && nat_lt (rule_number a.rule) (rule_number b.rule))

abbrev pub earlier : Broken → Broken → Broken
earlier a b = if is_before b a then b else a

abbrev pub first_of : Broken → List Broken → Broken
first_of a [] = a
first_of a (b ∷ others) = first_of (earlier a b) others

-- the value, unless some rule is broken
abbrev pub unless : {A : Type 0} → List Broken → A → Result A Broken
unless [] x = Ok x
unless (b ∷ others) x = Err (first_of b others)

-- a rule is broken where this holds
abbrev pub breaks_if : Bool → Rule → List Rule
breaks_if true rule = rule ∷ []
breaks_if false rule = []

abbrev pub and_then : {A B E : Type 0} → Result A E → (A → Result B E) → Result B E
and_then (Ok x) next = next x
and_then (Err e) next = Err e

-- of rules at one node the one with the least number
abbrev pub lesser : Rule → Rule → Rule
lesser a b = if nat_lt (rule_number b) (rule_number a) then b else a

abbrev pub least_of : Rule → List Rule → Rule
least_of a [] = a
least_of a (b ∷ others) = least_of (lesser a b) others

abbrev pub unless_rules : {A : Type 0} → List Rule → A → Result A Rule
unless_rules [] x = Ok x
unless_rules (a ∷ others) x = Err (least_of a others)
