-- The headers that are built in. Each is included as a file of this text would be, but nothing is read.
use Rattle.std.specs.Prelude.{ℕ, Bool, List, ◌++◌, [], ◌∷◌, Option, Some, None, if◌then◌else◌, bytes_eq, codes}

-- one line of types, and a macro
abbrev pub u_h : List ℕ
u_h = codes "typedef unsigned char uchar; typedef signed char schar; typedef unsigned short ushort; typedef unsigned int uint; typedef unsigned long ulong;\n#define nil ((void*)0)\n"

-- one line of declarations
abbrev pub libc_h : List ℕ
libc_h = codes "extern void exits(char*); extern long read(int, void*, long); extern long write(int, void*, long);\n"

-- they stand between `<` and `>`
unfoldable pub header : (angled : Bool) (name : List ℕ) → Option (List ℕ)
header angled name =
    if angled then (if bytes_eq name (codes "u.h") then Some u_h else (if bytes_eq name (codes "libc.h") then Some libc_h else None))
    else None
