use Rattle.std.proofs.Common.{◌≡◌, ◌+◌, ◌-◌, ◌<◌, ◌≤◌, length, get_or, set, map, refl, sym, subst, arith}
use Rattle.std.proofs.lemmas.List.Elements.{All-get_or}
use Rattle.pm_mapfile.specs.steps.Rotation.{told_dart, turned_lines, AreFollowers}
use Rattle.pm_mapfile.proofs.RotationLemmas.{AreWritingLines, next_fits, written_more, followed_by_next, followed_by_first, writing_more}
use Rattle.pm_mapfile.proofs.rotation.write_followers.Goals as goal

pub places-preserved : goal.places-preserved
places-preserved c =
    let darts = c.args.darts.now in
    let sizes = c.args.sizes.now in
    let w = c.lines.invariant in
    let fits = next_fits sizes darts w.before c.lines.size-index c.lines.start w.turning c.lines-test.true in
    let from : c.lines.start ≤ c.places.place = c.places.auto.place in
    let within : c.places.place < length darts = omega (arith, fits.1, c.places-test.true) in
    let below : get_or darts c.places.place 0 < length darts = All-get_or (λ dart. dart < length darts) darts c.places.place 0 within c.requires.below in
    let next : get_or darts (c.places.place + 1) 0 < length darts = All-get_or (λ dart. dart < length darts) darts (c.places.place + 1) 0 (omega (arith, fits.1, c.places-test.true)) c.requires.below in
    written_more darts (turned_lines sizes darts) c.places.place (get_or darts c.places.place 0) (get_or darts (c.places.place + 1) 0) c.places.followers c.places.invariant within below refl
    (followed_by_next sizes darts w.before c.lines.size-index c.lines.start c.places.place w.turning w.long c.lines-test.true from (omega (arith, c.places-test.true)))
    (omega (arith, next, c.requires.few))

pub lines-preserved : goal.lines-preserved
lines-preserved c =
    let darts = c.args.darts.now in
    let sizes = c.args.sizes.now in
    let w = c.lines.invariant in
    let size = get_or sizes c.lines.size-index 0 in
    let last = c.lines.start + size - 1 in
    let fits = next_fits sizes darts w.before c.lines.size-index c.lines.start w.turning c.lines-test.true in
    let end : c.places.place ≡ last = omega (arith, fits.0, c.places-test.false, c.places.auto.place-end (omega (arith, fits.0))) in
    let below : get_or darts last 0 < length darts = All-get_or (λ dart. dart < length darts) darts last 0 (omega (arith, fits.0, fits.1)) c.requires.below in
    let past : last + 1 ≡ c.lines.start + size = omega (arith, fits.0) in
    let first : get_or darts c.lines.start 0 < length darts = All-get_or (λ dart. dart < length darts) darts c.lines.start 0 (omega (arith, fits.0, fits.1)) c.requires.below in
    let more = set c.places.followers (get_or darts last 0) (get_or darts c.lines.start 0) in
    let written : AreFollowers darts (turned_lines sizes darts) (last + 1) (map told_dart more) =
    written_more darts (turned_lines sizes darts) last (get_or darts last 0) (get_or darts c.lines.start 0) c.places.followers
    (subst (λ n. AreFollowers darts (turned_lines sizes darts) n (map told_dart c.places.followers)) end c.places.invariant) (omega (arith, fits.0, fits.1)) below refl
    (followed_by_first sizes darts w.before c.lines.size-index c.lines.start w.turning w.long c.lines-test.true) (omega (arith, first, c.requires.few)) in
    subst (λ n. AreWritingLines sizes darts (map told_dart more) (c.lines.size-index + 1) n) (sym past)
    (writing_more sizes darts (map told_dart c.lines.followers) (map told_dart more) c.lines.size-index c.lines.start w c.lines-test.true (subst (λ n. AreFollowers darts (turned_lines sizes darts) n (map told_dart more)) past written))
