use Rattle.std.proofs.Common.{◌≡◌, ◌-◌, ◌++◌, chars, encode_utf8, length, take, sym, ap, ◌∙◌, arith}
use Rattle.uca_match.proofs.TextLemmas.{stands-back}
use Rattle.uca_match.proofs.text_elements.one_back.Goals as goal
use Rattle.std.proofs.lemmas.Grind.{common_steps}

pub returns-clause-stands : goal.returns-clause-stands
returns-clause-stands c = grind (arith, common_steps, encode_utf8, stands-back)

pub returns-clause-back : goal.returns-clause-back
returns-clause-back c =
    let is : take (length c.args.text.now - length c.args.rest.now) c.args.text.now ≡ c.as_str.result.now ++ encode_utf8 c.in_ok-last.last =
    sym c.split_at.ensures.front ∙ sym c.chars-read.ensures.rest ∙ c.in_ok-last.ensures.steps ∙ ap (λ l. l ++ encode_utf8 c.in_ok-last.last) (sym c.as_str.ensures) in
    record {
      c = c.in_ok-last.last;
      same = ap chars c.split_at-2.ensures.back ∙ (stands-back c.args.text.now c.args.rest.now c.as_str.result.now c.in_ok-last.last c.requires c.utf8.text c.as_str.utf8 is).same;
      ends = omega (arith, c.in_ok-place.ensures, ap length c.in_ok-elements.ensures.character.elements);
    }
