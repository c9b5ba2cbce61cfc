use Rattle.uca_key.proofs.streaming.send_weights.Goals as goal

pub slice_bounds-send_elements-end : goal.slice_bounds-send_elements-end
slice_bounds-send_elements-end g c = (c.requires.holds c.in-Some.held c.in-Some.is).0
