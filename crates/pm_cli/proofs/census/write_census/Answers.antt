use Rattle.std.proofs.Common.{◌≡◌, ◌≤◌, ℕ, ◌+◌, ◌∷◌, ◌++◌, List, [], length, take, inr, refl, sym, ap, ap₂, ◌∙◌, subst, arith}
use Rattle.std.specs.Prelude.{codes, decimal}
use Rattle.std.specs.List.{sum}
use Rattle.std.specs.Map.{values_of}
use Rattle.pm_io.specs.Bytes.{added}
use Rattle.pm_io.specs.Faults.{FaultsRose}
use Rattle.pm_text.specs.Broken.{newline}
use Rattle.pm_map.specs.Rotation.{RotationSystem}
use Rattle.pm_cli.specs.declared.refusal.Stop.TheVariants.{Write, Memory}
use Rattle.pm_cli.specs.Counting.{total_line, IsCensusRecord, HasFirstEntries, Counts}
use Rattle.pm_cli.specs.steps.Answering.{stop_of_census}
use Rattle.pm_cli.specs.steps.Streams.{IsWritingRecords}
use Rattle.pm_cli.proofs.CensusRecords.{record_of_entry, sum_more, place_within, sum_all, no_census, entries_written, entry_in_prefix, census_ends}
use Rattle.pm_cli.proofs.Records.{AreWritten, none_written, one_more_written}
use Rattle.pm_cli.proofs.Refusals.{stopped_as}
use Rattle.pm_cli.proofs.census.write_census.Goals as goal

pub returns-in_err-found : goal.returns-in_err-found
returns-in_err-found g c = stopped_as (IsWritingRecords (Counts (g.C.MapClass.choice_limits c.args.size.now) (g.C.MapClass.samples c.args.size.now)) (HasFirstEntries (g.C.MapClass.choice_limits c.args.size.now) (g.C.MapClass.samples c.args.size.now))
    (g.O.Sink.holds c.args.out.now) (g.O.Sink.holds c.args.out.now) (g.O.Sink.faults c.args.out.now) (g.O.Sink.faults c.args.out.now)) (stop_of_census c.in_err-found.field-0.0)
    (no_census (g.C.MapClass.choice_limits c.args.size.now) (g.C.MapClass.samples c.args.size.now) (HasFirstEntries (g.C.MapClass.choice_limits c.args.size.now) (g.C.MapClass.samples c.args.size.now)) (g.O.Sink.holds c.args.out.now) (g.O.Sink.faults c.args.out.now)
    c.in_err-found.field-0.0 c.in_err-found.ensures) c.from_residual.result c.from_residual.ensures.1

pub maps-init : goal.maps-init
maps-init g c = record { so_far = none_written (IsCensusRecord c.found.inside.numbers.entries) (g.O.Sink.holds c.args.out.now); summed = refl; calm = refl }

pub returns-in_err-text : goal.returns-in_err-text
returns-in_err-text g c = stopped_as (IsWritingRecords (Counts (g.C.MapClass.choice_limits c.args.size.now) (g.C.MapClass.samples c.args.size.now)) (HasFirstEntries (g.C.MapClass.choice_limits c.args.size.now) (g.C.MapClass.samples c.args.size.now))
    (g.O.Sink.holds c.args.out.now) (g.O.Sink.holds c.maps.out) (g.O.Sink.faults c.args.out.now) (g.O.Sink.faults c.maps.out)) Memory (
      inr (entries_written (g.C.MapClass.choice_limits c.args.size.now) (g.C.MapClass.samples c.args.size.now) c.in_ok-found.found c.in_ok-found.ensures.0 c.in_ok-found.ensures.1
          c.entries_go_on.ensures c.maps.place (g.O.Sink.holds c.args.out.now) (g.O.Sink.holds c.maps.out)
          (place_within c.in_ok-found.found c.maps.place c.map.result.now c.map.ensures)
          (subst (λ (entries : List (RotationSystem × ℕ)). AreWritten (IsCensusRecord entries) c.maps.place (g.O.Sink.holds c.args.out.now) (g.O.Sink.holds c.maps.out)) c.found.view_is
          c.maps.invariant.so_far)),
      c.maps.invariant.calm,
    ) c.from_residual-in_err-text.result c.from_residual-in_err-text.ensures.1

pub returns-in_err-write : goal.returns-in_err-write
returns-in_err-write g c =
    let is_record = record_of_entry c.in_ok-found.found c.maps.place c.map.result.now c.lists.result c.in_ok-text.text.items c.map.ensures c.lists.ensures c.in_ok-text.ensures in
    let prefix = c.in_err-write.ensures.prefix in
    stopped_as (IsWritingRecords (Counts (g.C.MapClass.choice_limits c.args.size.now) (g.C.MapClass.samples c.args.size.now)) (HasFirstEntries (g.C.MapClass.choice_limits c.args.size.now) (g.C.MapClass.samples c.args.size.now))
    (g.O.Sink.holds c.args.out.now) (g.O.Sink.holds c.write.new.self) (g.O.Sink.faults c.args.out.now) (g.O.Sink.faults c.write.new.self)) Write (
      entry_in_prefix (g.C.MapClass.choice_limits c.args.size.now) (g.C.MapClass.samples c.args.size.now) c.in_ok-found.found c.in_ok-found.ensures.0 c.in_ok-found.ensures.1
          c.entries_go_on.ensures c.maps.place prefix.0 (g.O.Sink.holds c.args.out.now) (g.O.Sink.holds c.maps.out) (g.O.Sink.holds c.write.new.self) c.in_ok-text.text.items
          (place_within c.in_ok-found.found c.maps.place c.map.result.now c.map.ensures)
          (subst (λ (entries : List (RotationSystem × ℕ)). AreWritten (IsCensusRecord entries) c.maps.place (g.O.Sink.holds c.args.out.now) (g.O.Sink.holds c.maps.out)) c.found.view_is
          c.maps.invariant.so_far) is_record
          (prefix.1 ∙ ap (λ (t : List ℕ). added (g.O.Sink.holds c.maps.out) (take prefix.0 t)) c.deref.ensures.value),
      subst (λ (f : ℕ). FaultsRose f (g.O.Sink.faults c.write.new.self)) c.maps.invariant.calm c.in_err-write.ensures.cause,
    ) c.from_residual-in_err-write.result c.from_residual-in_err-write.ensures.1

pub overflow_add-lists : goal.overflow_add-lists
overflow_add-lists g c =
    let few = c.in_ok-found.ensures.0 in
    let total = c.census_counts_lists.ensures c.args.size.now c.in_ok-found.found c.requires c.in_ok-found.ensures.1 in
    let more = sum_more c.in_ok-found.found c.maps.place c.lists-lists.result c.lists-lists.ensures in
    let summed : c.maps.lists ≡ sum (take c.maps.place (values_of c.in_ok-found.found)) =
    c.maps.invariant.summed ∙ ap (λ (entries : List (RotationSystem × ℕ)). sum (take c.maps.place (values_of entries))) c.found.view_is in
    omega (arith, summed, more.1, total, few)

pub maps-preserved : goal.maps-preserved
maps-preserved g c =
    let is_record = record_of_entry c.in_ok-found.found c.maps.place c.map.result.now c.lists.result c.in_ok-text.text.items c.map.ensures c.lists.ensures c.in_ok-text.ensures in
    let more = sum_more c.in_ok-found.found c.maps.place c.lists-lists.result c.lists-lists.ensures in
    let summed : c.maps.lists ≡ sum (take c.maps.place (values_of c.in_ok-found.found)) =
    c.maps.invariant.summed ∙ ap (λ (entries : List (RotationSystem × ℕ)). sum (take c.maps.place (values_of entries))) c.found.view_is in
    record {
      so_far = subst (λ (entries : List (RotationSystem × ℕ)). AreWritten (IsCensusRecord entries) (c.maps.place + 1) (g.O.Sink.holds c.args.out.now) (g.O.Sink.holds c.write.new.self))
          (sym c.found.view_is)
          (one_more_written (IsCensusRecord c.in_ok-found.found) c.maps.place (g.O.Sink.holds c.args.out.now) (g.O.Sink.holds c.maps.out) (g.O.Sink.holds c.write.new.self)
          c.in_ok-text.text.items (subst (λ (entries : List (RotationSystem × ℕ)). AreWritten (IsCensusRecord entries) c.maps.place (g.O.Sink.holds c.args.out.now) (g.O.Sink.holds c.maps.out)) c.found.view_is
          c.maps.invariant.so_far) is_record
          (c.in_ok-write.ensures.whole ∙ ap (added (g.O.Sink.holds c.maps.out)) c.deref.ensures.value));
      summed = ap (λ (n : ℕ). n + c.lists-lists.result) summed ∙ sym more.0
          ∙ ap (λ (entries : List (RotationSystem × ℕ)). sum (take (c.maps.place + 1) (values_of entries))) (sym c.found.view_is);
      calm = c.in_ok-write.ensures.calm ∙ c.maps.invariant.calm;
    }

pub returns-in_err-total : goal.returns-in_err-total
returns-in_err-total g c =
    let within : c.maps.place ≤ length c.in_ok-found.found = omega (arith, c.len-place-end.ensures) in
    stopped_as (IsWritingRecords (Counts (g.C.MapClass.choice_limits c.args.size.now) (g.C.MapClass.samples c.args.size.now)) (HasFirstEntries (g.C.MapClass.choice_limits c.args.size.now) (g.C.MapClass.samples c.args.size.now))
    (g.O.Sink.holds c.args.out.now) (g.O.Sink.holds c.maps.out) (g.O.Sink.faults c.args.out.now) (g.O.Sink.faults c.maps.out)) Memory (
      inr (entries_written (g.C.MapClass.choice_limits c.args.size.now) (g.C.MapClass.samples c.args.size.now) c.in_ok-found.found c.in_ok-found.ensures.0 c.in_ok-found.ensures.1
          c.entries_go_on.ensures c.maps.place (g.O.Sink.holds c.args.out.now) (g.O.Sink.holds c.maps.out) within
          (subst (λ (entries : List (RotationSystem × ℕ)). AreWritten (IsCensusRecord entries) c.maps.place (g.O.Sink.holds c.args.out.now) (g.O.Sink.holds c.maps.out)) c.found.view_is
          c.maps.invariant.so_far)),
      c.maps.invariant.calm,
    ) c.from_residual-in_err-total.result c.from_residual-in_err-total.ensures.1

pub returns : goal.returns
returns g c =
    let all : c.maps.place ≡ length c.in_ok-found.found = omega (arith, c.len-place-end.ensures) in
    let summed : c.maps.lists ≡ sum (take c.maps.place (values_of c.in_ok-found.found)) =
    c.maps.invariant.summed ∙ ap (λ (entries : List (RotationSystem × ℕ)). sum (take c.maps.place (values_of entries))) c.found.view_is in
    let lists : c.maps.lists ≡ sum (values_of c.in_ok-found.found) =
    summed ∙ ap (λ (n : ℕ). sum (take n (values_of c.in_ok-found.found))) all ∙ sum_all c.in_ok-found.found in
    let line : c.in_ok-total.total.items ≡ total_line c.in_ok-found.found =
    c.in_ok-total.ensures ∙ ap₂ (λ (maps lists : ℕ). codes "total " ++ decimal maps ++ codes " " ++ decimal lists ++ newline ∷ []) c.len.ensures lists in
    census_ends (g.C.MapClass.choice_limits c.args.size.now) (g.C.MapClass.samples c.args.size.now) c.in_ok-found.found c.in_ok-found.ensures.0 c.in_ok-found.ensures.1
    c.entries_go_on.ensures c.maps.place (g.O.Sink.holds c.args.out.now) (g.O.Sink.holds c.maps.out) (g.O.Sink.holds c.write_text.new.out) (g.O.Sink.faults c.args.out.now)
    (g.O.Sink.faults c.maps.out) (g.O.Sink.faults c.write_text.new.out) c.deref-2.result.now c.write_text.result all
    (subst (λ (entries : List (RotationSystem × ℕ)). AreWritten (IsCensusRecord entries) c.maps.place (g.O.Sink.holds c.args.out.now) (g.O.Sink.holds c.maps.out)) c.found.view_is
    c.maps.invariant.so_far) (c.deref-2.ensures.value ∙ line) c.maps.invariant.calm c.write_text.ensures.written
