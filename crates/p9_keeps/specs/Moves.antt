-- Moves that keep what homes hold: `HasMoves`; and that framed code with them keeps the meaning.
use Rattle.std.specs.Prelude.{ℕ, ◌+◌, ◌≡◌, ◌≤◌, Bool, true, false, Option, Some, List, All, Contains}
use Rattle.p9_abs.specs.declared.instructions.AFunction.{AFunction}
use Rattle.p9_abs.specs.declared.instructions.TextDef.{TextDef}
use Rattle.p9_abs.specs.declared.regions.Region.{Region}
use Rattle.p9_abs.specs.Automatics.{IsCode, IsLive, call_at}
use Rattle.p9_abs.specs.Regions.{AreRegions, AreHomes, home_at}
use Rattle.p9_abs.specs.Framed.{Shift, Plan, IsFramed}
use Rattle.p9_abs.specs.Keeping.{KeepsFramed}
use Rattle.p9_homed.specs.Plain.{IsPlain}

-- a move, this way, of an automatic whose home at instruction i it is
pub record IsMoveAt (rs : List Region) (homes : List (Option ℕ)) (loads : Bool) (i : ℕ) (s : Shift) : Type 0 where
  pub direction : s.loads ≡ loads
  pub home : home_at rs homes s.auto i ≡ Some s.home

-- all moves are so, and each automatic that is live at instruction i and has a home there is moved
pub record AreMoves (f : AFunction) (rs : List Region) (homes : List (Option ℕ)) (loads : Bool) (i : ℕ) (shifts : List Shift) : Type 0 where
  pub each : All (IsMoveAt rs homes loads i) shifts
  pub every : (v h : ℕ) → IsLive f v i → home_at rs homes v i ≡ Some h → Contains shifts (record { auto = v; home = h; loads = loads })

-- homes are loaded at the entry, stored before calls and loaded behind them
pub record HasMoves (f : AFunction) (rs : List Region) (homes : List (Option ℕ)) (p : Plan) : Type 0 where
  pub entry : AreMoves f rs homes true 0 p.entry
  pub before : (i : ℕ) → call_at f.code i ≡ true → AreMoves f rs homes false i (p.before i)
  pub after : (i : ℕ) → call_at f.code i ≡ true → AreMoves f rs homes true (i + 1) (p.after i)

-- framed code with these moves and a frame keeps the meaning
abbrev pub FramedKeeps : Type 0
FramedKeeps =
    (f : AFunction) (rs : List Region) (homes : List (Option ℕ)) (def : TextDef) (p : Plan) → IsCode f → IsPlain f.code → AreRegions f rs → AreHomes rs homes →
    IsFramed f rs homes def p → HasMoves f rs homes p → 1 ≤ def.frame → KeepsFramed f p.offsets def
