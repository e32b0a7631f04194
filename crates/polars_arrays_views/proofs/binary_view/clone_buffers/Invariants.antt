use Rattle.std.proofs.Common.{◌≡◌, take}
use Rattle.polars_arrays_views.proofs.binary_view.clone_buffers.Given as goal

abbrev pub invariant-loop-buffer : goal.invariant-loop-buffer
invariant-loop-buffer l = l.copies.items ≡ take l.buffer-index l.buffers
