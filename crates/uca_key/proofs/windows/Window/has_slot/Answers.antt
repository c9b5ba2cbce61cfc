use Rattle.uca_key.proofs.Common.{◌≡◌, ◌<◌, ◌+◌, ◌-◌, ◌%◌, ◌&&◌, ℕ, nat_lt, nat_le, arith, cases_lt, le-leb, lt-leb, lt-ltb, le-ltb, common_steps}
use Rattle.uca_key.proofs.windows.Window.has_slot.Goals as goal

-- one test in place of two, since a difference below zero is far above a window
one-test : (x f : ℕ) → x < 65536 → f < 65536 → nat_lt ((x + (4294967296 - f)) % 4294967296) 119 ≡ (nat_le f x && nat_lt x (f + 119))
one-test x f h k = grind (arith, common_steps, cases_lt, le-ltb, lt-leb, lt-ltb, le-leb)

pub returns : goal.returns
returns c = one-test c.args.slot c.args.self.now.slot (omega arith) (omega arith)
