-- The answers, with the status and the line that each stands for.
use Rattle.std.specs.Prelude.{ℕ, List, [], ◌∷◌, ◌++◌, codes, decimal}
use Rattle.std.specs.Int.{w32, to_be_bytes}
use Rattle.hex.specs.Hex.{encode_lower}
use Rattle.p9_aout.specs.declared.format.AoutFault.{AoutFault}
use Rattle.p9_aout.specs.declared.format.AoutFault.TheVariants as executables
use Rattle.p9_asm.specs.declared.fault.AsmFault.{AsmFault}
use Rattle.p9_asm.specs.declared.fault.AsmFault.TheVariants as assembly
use Rattle.p9_base.specs.declared.halt.HaltCause.{HaltCause}
use Rattle.p9_base.specs.declared.halt.HaltCause.TheVariants as halts
use Rattle.p9_lex.specs.declared.token.LexFault.{LexFault}
use Rattle.p9_lex.specs.declared.token.LexFault.TheVariants as lexing
use Rattle.p9_load.specs.declared.fault.LoadFault.{LoadFault}
use Rattle.p9_load.specs.declared.fault.LoadFault.TheVariants as loads
use Rattle.p9_names.specs.declared.table.LinkFault.{LinkFault}
use Rattle.p9_names.specs.declared.table.LinkFault.TheVariants as links
use Rattle.p9_reader.specs.declared.faults.ObjFault.{ObjFault}
use Rattle.p9_reader.specs.declared.faults.ObjFault.TheVariants as objects
use Rattle.p9_suite.specs.declared.answer.Answer.{Answer}
use Rattle.p9_suite.specs.declared.answer.Answer.TheVariants.{Done, Usage, Refused, Ran}
use Rattle.p9_suite.specs.declared.answer.End.{End}
use Rattle.p9_suite.specs.declared.answer.End.TheVariants.{Exit, ReadFault, WriteFault, Halted, Spent}
use Rattle.p9_suite.specs.declared.answer.Refusal.{Refusal}
use Rattle.p9_suite.specs.declared.answer.Refusal.TheVariants.{Absent, StoreFault, NotBuilt, Assembly, Object, Link, Load, Executable, Memory}

-- Statuses

abbrev pub link_status : LinkFault → ℕ
link_status (links.Twice name i j) = 5
link_status links.NoMain = 5
link_status (links.MainType i) = 5
link_status (links.Unresolved name i) = 5
link_status (links.Disagree name i j) = 5
link_status links.Memory = 10

abbrev pub load_status : LoadFault → ℕ
load_status (loads.Twice name i j) = 5
load_status loads.NoMain = 5
load_status (loads.MainType i) = 5
load_status (loads.Unresolved name i) = 5
load_status (loads.Disagree name i j) = 5
load_status (loads.DataTooLarge bytes) = 5
load_status (loads.TextTooLarge words) = 5
load_status loads.Memory = 10

abbrev pub object_status : ObjFault → ℕ
object_status (objects.BadObject at) = 4
object_status (objects.Version version) = 4
object_status objects.Memory = 10

abbrev pub executable_status : AoutFault → ℕ
executable_status (executables.BadMagic magic) = 13
executable_status (executables.ShortFile need) = 13
executable_status executables.BadSegment = 13
executable_status executables.Memory = 10

abbrev pub lex_status : LexFault → ℕ
lex_status (lexing.BadByte at line) = 3
lex_status (lexing.OpenComment at line) = 3
lex_status (lexing.OpenText at line) = 3
lex_status (lexing.WideNumber at line) = 3
lex_status lexing.Memory = 10

abbrev pub assembly_status : AsmFault → ℕ
assembly_status (assembly.Lex why) = lex_status why
assembly_status (assembly.AsmSyntax line) = 3
assembly_status (assembly.Reserved line register) = 3
assembly_status (assembly.NoLabel line name) = 3
assembly_status (assembly.LabelTwice line name) = 3
assembly_status assembly.Memory = 10

abbrev pub refusal_status : Refusal → ℕ
refusal_status (Assembly file why) = assembly_status why
refusal_status (Object file why) = object_status why
refusal_status (Link why) = link_status why
refusal_status (Load why) = load_status why
refusal_status (Absent file) = 6
refusal_status (StoreFault file) = 9
refusal_status Memory = 10
refusal_status (Executable file why) = executable_status why
refusal_status (NotBuilt file) = 16

abbrev pub end_status : End → ℕ
end_status (Exit text) = 1
end_status ReadFault = 7
end_status WriteFault = 8
end_status (Halted cause pc) = 11
end_status (Spent budget) = 12

abbrev pub status : Answer → ℕ
status Done = 0
status Usage = 2
status (Refused why) = refusal_status why
status (Ran end) = end_status end

-- Lines

abbrev pub newline : List ℕ
newline = 10 ∷ []

abbrev pub blank : List ℕ
blank = codes " "

-- an address, as eight hexadecimal digits with lower case letters
abbrev pub address : ℕ → List ℕ
address a = encode_lower (to_be_bytes w32 a)

-- the name of a halt's cause, and its address or its call's number
abbrev pub cause_text : HaltCause → List ℕ
cause_text halts.Fetch = codes "Fetch"
cause_text halts.BadWord = codes "BadWord"
cause_text halts.LoadHazard = codes "LoadHazard"
cause_text halts.HiLoHazard = codes "HiLoHazard"
cause_text halts.SlotBranch = codes "SlotBranch"
cause_text (halts.Misaligned a) = codes "Misaligned " ++ address a
cause_text (halts.BadAddress a) = codes "BadAddress " ++ address a
cause_text halts.Divide = codes "Divide"
cause_text halts.Overflow = codes "Overflow"
cause_text halts.Break = codes "Break"
cause_text (halts.BadCall number) = codes "BadCall " ++ decimal number

abbrev pub no_memory : List ℕ
no_memory = codes "no memory" ++ newline

-- Modules that are refused are told by their numbers.

abbrev pub twice_line : (name : List ℕ) (i j : ℕ) → List ℕ
twice_line name i j = codes "vl: 40 Twice " ++ (name ++ (blank ++ (decimal i ++ (blank ++ (decimal j ++ newline)))))

abbrev pub unresolved_line : (name : List ℕ) (i : ℕ) → List ℕ
unresolved_line name i = codes "vl: 41 Unresolved " ++ (name ++ (blank ++ (decimal i ++ newline)))

abbrev pub disagree_line : (name : List ℕ) (i j : ℕ) → List ℕ
disagree_line name i j = codes "vl: 42 Disagree " ++ (name ++ (blank ++ (decimal i ++ (blank ++ (decimal j ++ newline)))))

abbrev pub no_main_line : List ℕ
no_main_line = codes "vl: 43 NoMain" ++ newline

abbrev pub main_type_line : (i : ℕ) → List ℕ
main_type_line i = codes "vl: 44 MainType " ++ (decimal i ++ newline)

abbrev pub link_line : LinkFault → List ℕ
link_line (links.Twice name i j) = twice_line name i j
link_line (links.Unresolved name i) = unresolved_line name i
link_line (links.Disagree name i j) = disagree_line name i j
link_line links.NoMain = no_main_line
link_line (links.MainType i) = main_type_line i
link_line links.Memory = no_memory

abbrev pub load_line : LoadFault → List ℕ
load_line (loads.Twice name i j) = twice_line name i j
load_line (loads.Unresolved name i) = unresolved_line name i
load_line (loads.Disagree name i j) = disagree_line name i j
load_line loads.NoMain = no_main_line
load_line (loads.MainType i) = main_type_line i
load_line (loads.DataTooLarge bytes) = codes "vl: 45 DataTooLarge " ++ (decimal bytes ++ newline)
load_line (loads.TextTooLarge words) = codes "vl: 46 TextTooLarge " ++ (decimal words ++ newline)
load_line loads.Memory = no_memory

abbrev pub object_line : (file : List ℕ) → ObjFault → List ℕ
object_line file (objects.BadObject at) = file ++ (codes ": 30 BadObject " ++ (decimal at ++ newline))
object_line file (objects.Version version) = file ++ (codes ": 31 Version " ++ (decimal version ++ newline))
object_line file objects.Memory = no_memory

abbrev pub executable_line : (file : List ℕ) → AoutFault → List ℕ
executable_line file (executables.BadMagic magic) = file ++ (codes ": 50 BadMagic " ++ (decimal magic ++ newline))
executable_line file (executables.ShortFile need) = file ++ (codes ": 51 ShortFile " ++ (decimal need ++ newline))
executable_line file executables.BadSegment = file ++ (codes ": 52 BadSegment" ++ newline)
executable_line file executables.Memory = no_memory

-- a line of a source file
abbrev pub place : (file : List ℕ) (line : ℕ) → List ℕ
place file line = file ++ (codes ":" ++ decimal line)

abbrev pub lex_line : (file : List ℕ) → LexFault → List ℕ
lex_line file (lexing.BadByte at line) = place file line ++ (codes ": 1 BadByte " ++ (decimal at ++ newline))
lex_line file (lexing.OpenComment at line) = place file line ++ (codes ": 2 OpenComment " ++ (decimal at ++ newline))
lex_line file (lexing.OpenText at line) = place file line ++ (codes ": 3 OpenText " ++ (decimal at ++ newline))
lex_line file (lexing.WideNumber at line) = place file line ++ (codes ": 4 WideNumber " ++ (decimal at ++ newline))
lex_line file lexing.Memory = no_memory

abbrev pub assembly_line : (file : List ℕ) → AsmFault → List ℕ
assembly_line file (assembly.Lex why) = lex_line file why
assembly_line file (assembly.AsmSyntax line) = place file line ++ (codes ": 32 AsmSyntax" ++ newline)
assembly_line file (assembly.Reserved line register) = place file line ++ (codes ": 33 Reserved " ++ (decimal register ++ newline))
assembly_line file (assembly.NoLabel line name) = place file line ++ (codes ": 34 NoLabel " ++ (name ++ newline))
assembly_line file (assembly.LabelTwice line name) = place file line ++ (codes ": 35 LabelTwice " ++ (name ++ newline))
assembly_line file assembly.Memory = no_memory

abbrev pub refusal_line : Refusal → List ℕ
refusal_line (Assembly file why) = assembly_line file why
refusal_line (Object file why) = object_line file why
refusal_line (Link why) = link_line why
refusal_line (Load why) = load_line why
refusal_line (Absent file) = file ++ (codes ": absent" ++ newline)
refusal_line (StoreFault file) = file ++ (codes ": store fault" ++ newline)
refusal_line Memory = no_memory
refusal_line (Executable file why) = executable_line file why
refusal_line (NotBuilt file) = file ++ (codes ": not built" ++ newline)

abbrev pub end_line : End → List ℕ
end_line (Exit text) = text ++ newline
end_line ReadFault = codes "read fault" ++ newline
end_line WriteFault = codes "write fault" ++ newline
end_line (Halted cause pc) = codes "halt " ++ (cause_text cause ++ (blank ++ (address pc ++ newline)))
end_line (Spent budget) = codes "budget " ++ (decimal budget ++ newline)

-- the line on the sink of errors
abbrev pub message : Answer → List ℕ
message Done = []
message Usage = codes "usage" ++ newline
message (Refused why) = refusal_line why
message (Ran end) = end_line end
