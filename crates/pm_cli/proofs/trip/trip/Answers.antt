use Rattle.std.proofs.Common.{◌≡◌, ℕ, List, true, not, ap, ap₂, sym, ◌∙◌, subst}
use Rattle.std.proofs.lemmas.Result.{IfOk-weaker}
use Rattle.std.specs.Str.{bytes_eq}
use Rattle.std.proofs.lemmas.Slice.Eq.{bytes_eq-Decides}
use Rattle.rand_core.specs.Stream.{Stream}
use Rattle.pm_draw.specs.Drawn.{words_of, drawn}
use Rattle.pm_class.specs.Unsampling.{IsUnsampled}
use Rattle.pm_class.proofs.UnnamedLemmas.{unnamed_in_class}
use Rattle.pm_cli.proofs.UnnamedTexts.{trip_made}
use Rattle.pm_cli.proofs.trip.trip.Goals as goal

-- equal lists aren't apart
not_apart : (xs ys : List ℕ) → xs ≡ ys → true ≡ not (bytes_eq xs ys) → ⊥
not_apart xs ys same apart = let equal = (bytes_eq-Decides xs ys).1 same in cc

pub unsample_valid-requires-clause-size : goal.unsample_valid-requires-clause-size
unsample_valid-requires-clause-size g c =
    (c.is_one_to_one.ensures.sized c.in_ok-sample.sample.map c.args.size.now c.in_ok-sample.ensures.rooted).1 (
      c.requires,
      unnamed_in_class _ _ _ _ c.values.result.now c.in_ok-sample.sample (c.is_one_to_one.ensures.kept c.args.size.now c.requires) c.in_ok-sample.ensures,
    )

pub unreachable-requires : goal.unreachable-requires
unreachable-requires g c =
    let found = subst (λ (r : List ℕ). IsUnsampled g.C.MapClass.choice_limits g.C.MapClass.residue_limits g.C.MapClass.samples g.C.MapClass.answers c.in_ok-sample.sample.map r c.in_ok-back.back)
    c.values-2.ensures c.in_ok-back.ensures in
    let same = c.unsample_undoes_unnamed.ensures c.args.size.now c.values.result.now c.in_ok-back.back c.in_ok-sample.sample c.requires c.in_ok-sample.ensures found in
    not_apart c.values-3.result.now c.values-4.result.now (c.values-3.ensures ∙ same ∙ c.values.ensures ∙ sym c.values-4.ensures) c.if-ne.ensures

pub returns : goal.returns
returns g c =
    let same = c.values.ensures ∙ c.in_ok-choices.ensures.drawn ∙ ap₂ (λ (bounds : List ℕ) (stream : Stream). (drawn bounds stream).0) c.in_ok-bounds.ensures (ap words_of c.rng_of-rng.ensures) in
    IfOk-weaker c.trip_text.result _ _
    (λ text is. trip_made (g.C.MapClass.choice_limits c.args.size.now) (g.C.MapClass.residue_limits c.args.size.now) (g.C.MapClass.has c.args.size.now) (g.C.MapClass.samples c.args.size.now) c.args.seed c.values.result.now
    c.in_ok-sample.sample text.items same c.in_ok-sample.ensures is) c.trip_text.ensures
