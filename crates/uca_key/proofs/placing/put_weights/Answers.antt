use Rattle.uca_key.proofs.placing.put_weights.Goals as goal

pub slice_bounds-put_level-end : goal.slice_bounds-put_level-end
slice_bounds-put_level-end c = (c.requires.holds c.in-Some.held c.in-Some.is).0
