use Rattle.std.proofs.Common.{refl, arith}
use Rattle.pm_tri.proofs.RunStarts.{entry_low, found_starts, starts_word}
use Rattle.pm_tri.proofs.runs.run_starts.Goals as goal

pub good_starts-requires-clause-sum : goal.good_starts-requires-clause-sum
good_starts-requires-clause-sum c = (starts_word _ _ _ _ c.letters-word.ensures.letters c.letters-word.ensures.valid c.in_ok-counts.ensures c.deref.ensures.value).sum

pub good_starts-requires-clause-letters : goal.good_starts-requires-clause-letters
good_starts-requires-clause-letters c = (starts_word _ _ _ _ c.letters-word.ensures.letters c.letters-word.ensures.valid c.in_ok-counts.ensures c.deref.ensures.value).is_word

pub place_behind-one-requires-clause-entry : goal.place_behind-one-requires-clause-entry
place_behind-one-requires-clause-entry c = entry_low _ _ _ _ 0 _ c.in_ok-counts.ensures c.deref.ensures.value c.in_ok-starts.ensures (omega arith) c.index.ensures

pub place_behind-other-requires-clause-entry : goal.place_behind-other-requires-clause-entry
place_behind-other-requires-clause-entry c = entry_low _ _ _ _ 1 _ c.in_ok-counts.ensures c.deref.ensures.value c.in_ok-starts.ensures (omega arith) c.index-2.ensures

pub returns : goal.returns
returns c =
    found_starts _ _ _ _ _ _ _ _ _ _ _ _ c.letters-word.ensures.letters c.letters-word.ensures.valid c.in_ok-counts.ensures c.deref.ensures.value c.in_ok-starts.ensures
    c.index.ensures c.index-2.ensures refl c.place_behind-one.ensures c.place_behind-other.ensures c.min.ensures c.max.ensures
