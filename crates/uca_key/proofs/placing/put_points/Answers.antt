use Rattle.uca_key.proofs.Common.{flat_map, ap, ◌∙◌, code_point_bytes, given_some}
use Rattle.uca_key.proofs.PlacingLemmas.{IsPutting-more}
use Rattle.uca_key.proofs.placing.put_points.Goals as goal

pub each-preserved : goal.each-preserved
each-preserved g c =
    let first = given_some _ _ c.next.result c.in-Some.point c.next.ensures.yields.first c.in-Some.is in
    record {
      text = c.next.ensures.yields.reads.text ∙ c.each.invariant.text;
      fits = c.next.ensures.yields.reads.fits;
      putting = IsPutting-more _ _ _ _ _ _ c.each.invariant.putting _ _ (code_point_bytes c.in-Some.point) _ c.requires.room (ap (flat_map code_point_bytes) first) c.put_point-next.ensures;
    }
