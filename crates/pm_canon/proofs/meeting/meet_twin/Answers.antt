use Rattle.std.proofs.Common.{◌≡◌, ◌<◌, ◌∙◌, ap, sym, subst, length, get_or, vec_len, arith, false, Some, Result, Ok, Err, Contains}
use Rattle.std.proofs.lemmas.List.{get_or_read_under}
use Rattle.std.proofs.lemmas.Option.{slice_get-get_or}
use Rattle.std.proofs.lemmas.Bool.{false≢true}
use Rattle.std.specs.Prelude.{OnOk}
use Rattle.pm_map.specs.Rotation.{structure_of, twin}
use Rattle.pm_canon.specs.steps.Kept.{AppendsVertex}
use Rattle.pm_canon.proofs.MeetingLemmas.{IsMeeting-stands, IsMeeting-onward}
use Rattle.pm_canon.proofs.meeting.meet_twin.Goals as goal

pub returns-then-marks-other-clause-meeting : goal.returns-then-marks-other-clause-meeting
returns-then-marks-other-clause-meeting c =
    let s = structure_of (record { sigma = c.args.sigma.now; root = c.args.root }) in
    let darts = c.args.darts.now.items in
    let is_dart : c.index.result.now ≡ get_or darts c.args.place 0 = get_or_read_under darts c.args.place (vec_len c.args.darts.now) c.index.result.now 0 c.index.ensures c.requires.within (omega arith) in
    let stands : Contains darts c.twin_of-other.result = c.requires.meeting.kept.marking.stands c.twin_of-other.result c.if-marks-other.true in
    IsMeeting-stands s c.args.marks.now darts c.args.place c.requires.meeting (omega arith) (subst (λ d. Contains darts d) (c.twin_of-other.ensures ∙ ap twin is_dart) stands)

pub append_sized-requires-clause-unmarked : goal.append_sized-requires-clause-unmarked
append_sized-requires-clause-unmarked c =
    let darts = c.args.darts.now.items in
    let is_dart : c.index.result.now ≡ get_or darts c.args.place 0 = get_or_read_under darts c.args.place (vec_len c.args.darts.now) c.index.result.now 0 c.index.ensures c.requires.within (omega arith) in
    let below : get_or darts c.args.place 0 < length c.args.sigma.now = c.requires.meeting.kept.once.stays c.args.place (omega arith) in
    let other : twin (get_or darts c.args.place 0) < length c.args.sigma.now = c.requires.map.structure.twin_stays (get_or darts c.args.place 0) below in
    let is_other : twin (get_or darts c.args.place 0) ≡ c.twin_of-other.result = sym (c.twin_of-other.ensures ∙ ap twin is_dart) in
    let there : c.twin_of-other.result < length c.args.sigma.now = subst (λ x. x < length c.args.sigma.now) is_other other in
    slice_get-get_or c.args.marks.now c.twin_of-other.result false (omega arith) ∙ ap Some c.if-marks-other.false

-- what follows from two clauses of an `Ok`
both : {T E : Type 0} (r : Result T E) (A B P : Type 0) → OnOk r A → OnOk r B → (A → B → P) → OnOk r P
both (Ok x) A B P a b follows = follows a b
both (Err e) A B P a b follows = tt

pub returns-clause-meeting : goal.returns-clause-meeting
returns-clause-meeting c =
    let s = structure_of (record { sigma = c.args.sigma.now; root = c.args.root }) in
    let darts = c.args.darts.now.items in
    let is_dart : c.index.result.now ≡ get_or darts c.args.place 0 = get_or_read_under darts c.args.place (vec_len c.args.darts.now) c.index.result.now 0 c.index.ensures c.requires.within (omega arith) in
    let is_other : c.twin_of-other.result ≡ twin (get_or darts c.args.place 0) = c.twin_of-other.ensures ∙ ap twin is_dart in
    let unmet : Contains darts (twin (get_or darts c.args.place 0)) → ⊥ = λ stands.
    false≢true (sym c.if-marks-other.false ∙ c.requires.meeting.kept.marking.marked c.twin_of-other.result (subst (λ d. Contains darts d) (sym is_other) stands)) in
    both _ _ _ _ c.append_sized.ensures.appended c.append_sized.ensures.kept (λ appended kept.
    IsMeeting-onward s c.args.marks.now c.append_sized.new.marks darts c.append_sized.new.darts.items c.args.place c.requires.meeting (omega arith) unmet
    (subst (λ d. AppendsVertex s d darts c.append_sized.new.darts.items) is_other appended) kept)
