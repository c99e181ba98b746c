-- What a word of the assembler's language may be beside a name.
use Rattle.std.specs.Prelude.{ℕ, ◌+◌, ◌-◌, ◌*◌, ◌==◌, nat_le, Bool, ◌&&◌, List, [], ◌∷◌, Option, Some, None, unwrap_or, codes, bytes_eq, if◌then◌else◌}
use Rattle.std.specs.Option.{option_or}
use Rattle.std.specs.Map.{lookup}
use Rattle.p9_abs.specs.declared.instructions.Op.TheVariants.{MovW, MovH, MovHU, MovB, MovBU, Add, AddU, Sub, SubU, And, Or, Xor, Nor, Sgt, SgtU, Sll, Srl, Sra, Mul, MulU, Div, DivU, Beq, Bne, Bgez, Bgtz, Blez, Bltz, Jmp, Jal, Ret, Syscall}
use Rattle.p9_statement.specs.declared.words.Directive.TheVariants as directives
use Rattle.p9_statement.specs.declared.words.Base.TheVariants as bases
use Rattle.p9_statement.specs.declared.words.Sense.{Sense}
use Rattle.p9_statement.specs.declared.words.Sense.TheVariants.{Plain, Operation, Directing, Register, Hi, Lo, Based}

-- The words of the language, by groups

abbrev pub move_words : List (List ℕ × Sense)
move_words =
    (codes "MOVW", Operation MovW) ∷ (codes "MOVH", Operation MovH) ∷ (codes "MOVHU", Operation MovHU)
    ∷ (codes "MOVB", Operation MovB) ∷ (codes "MOVBU", Operation MovBU) ∷ []

abbrev pub sum_words : List (List ℕ × Sense)
sum_words =
    (codes "ADD", Operation Add) ∷ (codes "ADDU", Operation AddU) ∷ (codes "SUB", Operation Sub) ∷ (codes "SUBU", Operation SubU)
    ∷ (codes "SGT", Operation Sgt) ∷ (codes "SGTU", Operation SgtU) ∷ []

abbrev pub bit_words : List (List ℕ × Sense)
bit_words =
    (codes "AND", Operation And) ∷ (codes "OR", Operation Or) ∷ (codes "XOR", Operation Xor) ∷ (codes "NOR", Operation Nor)
    ∷ (codes "SLL", Operation Sll) ∷ (codes "SRL", Operation Srl) ∷ (codes "SRA", Operation Sra) ∷ []

abbrev pub product_words : List (List ℕ × Sense)
product_words =
    (codes "MUL", Operation Mul) ∷ (codes "MULU", Operation MulU) ∷ (codes "DIV", Operation Div) ∷ (codes "DIVU", Operation DivU) ∷ []

abbrev pub branch_words : List (List ℕ × Sense)
branch_words =
    (codes "BEQ", Operation Beq) ∷ (codes "BNE", Operation Bne) ∷ (codes "BGEZ", Operation Bgez) ∷ (codes "BGTZ", Operation Bgtz)
    ∷ (codes "BLEZ", Operation Blez) ∷ (codes "BLTZ", Operation Bltz) ∷ []

abbrev pub jump_words : List (List ℕ × Sense)
jump_words =
    (codes "JMP", Operation Jmp) ∷ (codes "JAL", Operation Jal) ∷ (codes "RET", Operation Ret) ∷ (codes "SYSCALL", Operation Syscall) ∷ []

abbrev pub directive_words : List (List ℕ × Sense)
directive_words =
    (codes "TEXT", Directing directives.Text) ∷ (codes "GLOBL", Directing directives.Globl)
    ∷ (codes "DATA", Directing directives.Data) ∷ (codes "TYPE", Directing directives.Signature) ∷ []

abbrev pub place_words : List (List ℕ × Sense)
place_words =
    (codes "SB", Based bases.Static) ∷ (codes "FP", Based bases.Argument) ∷ (codes "SP", Based bases.Frame)
    ∷ (codes "HI", Hi) ∷ (codes "LO", Lo) ∷ []

abbrev pub found : List ℕ → List (List ℕ × Sense) → Option Sense
found name words = lookup (λ k. bytes_eq name k) words

-- Registers: R0 to R31, with no zero in front

abbrev pub is_digit : ℕ → Bool
is_digit b = nat_le 48 b && nat_le b 57

abbrev pub two_digits : (tens ones : ℕ) → Option Sense
two_digits tens ones =
    if nat_le 49 tens && nat_le tens 51 && is_digit ones && nat_le ((tens - 48) * 10 + (ones - 48)) 31
    then Some (Register ((tens - 48) * 10 + (ones - 48)))
    else None

abbrev pub numbered : (digits : List ℕ) → Option Sense
numbered [] = None
numbered (d ∷ []) = if is_digit d then Some (Register (d - 48)) else None
numbered (d ∷ e ∷ []) = two_digits d e
numbered (d ∷ e ∷ f ∷ rest) = None

abbrev pub register_word : List ℕ → Option Sense
register_word [] = None
register_word (b ∷ digits) = if b == 82 then numbered digits else None

-- what a word is; any other word is a plain name
unfoldable pub sense_of : List ℕ → Sense
sense_of name = unwrap_or (option_or (option_or (option_or (option_or (option_or (option_or (option_or (option_or (found name move_words) (found name sum_words)) (found name bit_words)) (found name product_words)) (found name branch_words)) (found name jump_words)) (found name directive_words)) (found name place_words)) (register_word name)) Plain
