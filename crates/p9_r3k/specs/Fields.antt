-- The fields of an instruction's word, and words from fields.
use Rattle.std.specs.Prelude.{ℕ, ◌+◌, ◌*◌, ◌/◌, ◌%◌, ◌^◌}
use Rattle.p9_base.specs.Numbers.{field_of}

abbrev pub op_of : ℕ → ℕ
op_of w = w / 2 ^ 26

abbrev pub rs_of : ℕ → ℕ
rs_of w = field_of w 21 5

abbrev pub rt_of : ℕ → ℕ
rt_of w = field_of w 16 5

abbrev pub rd_of : ℕ → ℕ
rd_of w = field_of w 11 5

abbrev pub sh_of : ℕ → ℕ
sh_of w = field_of w 6 5

abbrev pub fn_of : ℕ → ℕ
fn_of w = w % 2 ^ 6

abbrev pub imm_of : ℕ → ℕ
imm_of w = w % 2 ^ 16

abbrev pub index_of : ℕ → ℕ
index_of w = w % 2 ^ 26

abbrev pub code_of : ℕ → ℕ
code_of w = field_of w 6 20

-- three registers, or two and a shift's distance, under op 0
abbrev pub r_word : (rs rt rd sh fn : ℕ) → ℕ
r_word rs rt rd sh fn = rs * 2 ^ 21 + rt * 2 ^ 16 + rd * 2 ^ 11 + sh * 2 ^ 6 + fn

-- two registers and a half word
abbrev pub i_word : (op rs rt imm : ℕ) → ℕ
i_word op rs rt imm = op * 2 ^ 26 + rs * 2 ^ 21 + rt * 2 ^ 16 + imm

-- a jump's target in its region
abbrev pub j_word : (op index : ℕ) → ℕ
j_word op index = op * 2 ^ 26 + index

-- twenty free bits, under op 0
abbrev pub c_word : (code fn : ℕ) → ℕ
c_word code fn = code * 2 ^ 6 + fn
