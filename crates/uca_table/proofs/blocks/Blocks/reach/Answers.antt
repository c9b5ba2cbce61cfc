use Rattle.uca_table.proofs.Common.{◌≡◌, ℕ, length, get_or, sym, ◌∙◌, arith, inl, inr, cases_lt, get_or_past, IsBlocks, common_steps}
use Rattle.uca_table.proofs.blocks.Blocks.reach.Goals as goal

pub returns-in_ok-resize-clause-blocks : goal.returns-in_ok-resize-clause-blocks
returns-in_ok-resize-clause-blocks g c =
    let old = c.share.new.self in
    let are : IsBlocks c.args.none old = c.in_ok-share.ensures.blocks in
    let same : (b : ℕ) → get_or c.resize.new.self.items b 0 ≡ get_or old.numbers.items b 0 = λ b. grind (arith, common_steps) in
    record {
      few = grind (arith, common_steps);
      whole = are.whole;
      within = λ b lt. elim (cases_lt b (length old.numbers.items)) [
        | inl before ↦ omega (arith, are.within b before, same b)
        | inr past ↦ omega (arith, get_or_past old.numbers.items b 0 past, same b, c.in_ok-share.ensures.some)
      ];
      single = λ b d e some. are.single b d (sym (same b) ∙ e ∙ same d) (omega (arith, same b, some));
      shared = are.shared;
    }
