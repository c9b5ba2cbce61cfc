-- What the bytes of primary weights so far leave to the next one.
use Rattle.std.specs.Prelude.{ℕ, nat_lt, List}
use Rattle.uca_key.specs.PrimaryCode.{CodeState, PrimaryCode, primary_level}
use Rattle.uca_key.specs.declared.weight_bytes.Placed.{Placed}
use Rattle.uca_key.specs.declared.weight_bytes.Reach.{Reach}

-- without what is kept of the window
abbrev pub state_of : Reach → CodeState
state_of r = record { base = r.window.now.base; second = nat_lt 0 r.due }

-- the bytes of a first level that are left to put, where these primary weights are left
abbrev pub first_left : PrimaryCode → Placed → List ℕ → List ℕ
first_left k s ws = primary_level k (state_of s.reach) ws
