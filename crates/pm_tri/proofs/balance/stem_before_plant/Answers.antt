use Rattle.std.proofs.Common.{◌-◌, refl, arith, add-one}
use Rattle.pm_tri.proofs.PlantScans.{none_found, rise_at, rise_none, rise_side, rise_stem, stem_found}
use Rattle.pm_tri.proofs.balance.stem_before_plant.Goals as goal

pub back-init : goal.back-init
back-init c = rise_none _ c.requires.tree c.requires.free

pub back-preserved-then-word-index-ne-STEM : goal.back-preserved-then-word-index-ne-STEM
back-preserved-then-word-index-ne-STEM c =
    rise_side _ c.requires.tree (c.back.index - 1) c.back.rise _ (omega arith) c.if-word-index-ne-STEM.true refl (rise_at _ c.back.index c.back.rise c.back-test.true c.back.invariant)

pub returns-then-rise-lt2 : goal.returns-then-rise-lt2
returns-then-rise-lt2 c =
    stem_found _ c.requires.tree (c.back.index - 1) c.back.rise _ (omega arith) c.if-word-index-ne-STEM.false c.if-rise-lt2.true (add-one (c.back.index - 1)) c.requires.free
    (rise_at _ c.back.index c.back.rise c.back-test.true c.back.invariant)

pub back-preserved : goal.back-preserved
back-preserved c =
    rise_stem _ c.requires.tree (c.back.index - 1) c.back.rise _ (omega arith) c.if-word-index-ne-STEM.false c.if-rise-lt2.false refl (rise_at _ c.back.index c.back.rise c.back-test.true c.back.invariant)

pub returns : goal.returns
returns c = none_found _ c.requires.tree c.back.index c.back.rise 0 (omega arith) refl c.requires.free c.back.invariant
