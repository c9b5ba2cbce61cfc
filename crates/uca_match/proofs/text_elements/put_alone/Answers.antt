use Rattle.std.proofs.Common.{◌≡◌, ◌≤◌, ℕ, List, ◌∷◌, ◌++◌, chars, encode_utf8, length, take, Some, sym, ap, subst, ◌∙◌, arith, append_assoc, get_or}
use Rattle.std.proofs.lemmas.Str.{chars_past_char}
use Rattle.unicode_normalization.specs.Forms.{nfd}
use Rattle.uca_weights.specs.declared.element.Element.{Element}
use Rattle.uca_model.specs.CollationElements.{elements}
use Rattle.uca_model.specs.StandAlone.{joining}
use Rattle.uca_table.specs.Characters.{IsCharacter}
use Rattle.uca_table.proofs.CellLemmas.{alone-before}
use Rattle.uca_match.proofs.TextLemmas.{kept-before}
use Rattle.uca_window.specs.PassageSource.{StandsIn}
use Rattle.uca_window.proofs.SourceLemmas.{stands_next}
use Rattle.uca_match.proofs.text_elements.put_alone.Goals as goal
use Rattle.std.proofs.lemmas.Grind.{common_steps}

pub characters-preserved : goal.characters-preserved
characters-preserved c =
    let t = c.args.t.now in let i = c.characters.invariant in
    let rest : List ℕ = c.characters.rest.now in let after : List ℕ = c.as_str-rest.result.now in
    let character = c.in-Some-after.character in
    let is : IsCharacter t c.in-Some-next.c character = subst (λ x. IsCharacter x c.in-Some-next.c character) c.in-Some.ensures c.in-Some-after.ensures.character in
    let joins : joining t c.in-Some-next.c ≤ c.characters.bearing = subst (λ x. joining x c.in-Some-next.c ≤ c.characters.bearing) c.in-Some.ensures c.in-Some-after.ensures.joins in
    let of : List ℕ → List Element = λ text. elements t (nfd text) in
    let step : rest ≡ encode_utf8 c.in-Some-next.c ++ after = sym c.chars-left.ensures.rest ∙ c.in-Some-next.ensures.steps.0 ∙ ap (λ u. encode_utf8 c.in-Some-next.c ++ u) (sym c.as_str-rest.ensures) in
    let first : chars rest ≡ c.in-Some-next.c ∷ chars after = chars_past_char rest after c.in-Some-next.c i.stands.utf8 step in
    let settled = i.ahead (λ n x e. let same : n ≡ c.in-Some-next.c = ap (λ (l : List ℕ). get_or l 0 0) (sym e ∙ first) in omega (arith, joins, ap (joining t) same)) in
    let before : List Element = take c.characters.at c.characters.room in
    let put = c.in-Some-put_fitting.ensures in
    record {
      ahead = λ joins. ap (λ l. l ++ of (chars after)) put.elements ∙ append_assoc before character.elements.now (of (chars after)) ∙ ap (λ l. before ++ l) (alone-before t c.in-Some-next.c (chars after) character.elements.now character.bearing is.elements is.bearing joins ∙ ap of (sym first)) ∙ settled;
      settled = λ few. record {
        back = rest;
        place = c.characters.at;
        is = record { c = c.in-Some-next.c; same = first; ends = omega (arith, put.place, ap length is.elements) };
        stands = i.stands;
        later = i.later;
        same = ap (λ l. l ++ of (chars rest)) put.kept ∙ settled;
      };
      kept = kept-before c.args.from c.characters.at c.in-Some-put_fitting.next c.put_fitting.new.room c.characters.room character.elements.now i.later i.within (omega (arith, put.place, i.later)) put.elements ∙ i.kept;
      later = omega (arith, put.place, i.later);
      within = grind (arith, common_steps);
      size = put.size ∙ i.size;
      stands = subst (StandsIn c.args.text.now) (sym c.as_str-rest.ensures) (stands_next c.args.text.now c.chars-left.result c.next.new.self (Some c.in-Some-next.c) (subst (StandsIn c.args.text.now) (sym c.chars-left.ensures.rest) i.stands) c.in-Some-next.ensures.steps);
    }
