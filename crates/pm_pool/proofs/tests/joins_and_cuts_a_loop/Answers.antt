use Rattle.std.proofs.Common.{◌∙◌, slice_index, ap}
use Rattle.pm_pool.proofs.tests.joins_and_cuts_a_loop.Goals as goal

-- the face of the one stem goes on to the stem after it
pub join-requires-clause-one_face : goal.join-requires-clause-one_face
join-requires-clause-one_face g c =
    record { steps = 1; leads = ap (slice_index c.add_stem-b.new.self.next) (ap (λ t. slice_index t c.start-plane.result.1) c.add_stem-b.ensures.same_twin ∙ c.start-plane.ensures.taken.alone.twin) ∙ c.add_stem-b.ensures.after_at }
