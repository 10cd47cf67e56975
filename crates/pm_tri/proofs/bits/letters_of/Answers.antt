use Rattle.std.proofs.Common.{◌+◌, false, true, refl, arith}
use Rattle.pm_tri.proofs.BitTrees.{building_close, building_end, building_one, building_parent, building_same, building_start, building_stem, prefix_bit, prefix_length}
use Rattle.pm_tri.proofs.bits.letters_of.Goals as goal
use Rattle.pm_tri.proofs.bits.letters_of.Goals.{then-one+in_ok-push+in_ok-push-2, else-one+then-stems-lt2+in_ok-push-3, else-one+else-stems-lt2+in_ok-push-4}

pub bits-init : goal.bits-init
bits-init c = building_start _ _ _ c.requires c.in_ok-letters.ensures.items c.new-parents.ensures.items

pub unwrap-stems-requires : goal.unwrap-stems-requires
unwrap-stems-requires c =
    let l = c.bits-test.true in
    let a = prefix_length c.args.bits.now in
    let some = building_parent c.args.bits.now c.bits.one-index c.bits.letters.items c.bits.parents.items c.bits.stems (omega (arith, a, l)) (prefix_bit c.args.bits.now c.bits.one-index false l c.if-one.false) c.if-stems-lt2.false c.bits.invariant in
    c.pop.ensures.variant.1 (omega (arith, some))

pub bits-preserved : goal.bits-preserved
bits-preserved c =
    elim c.if-one.branch [
      | then-one+in_ok-push+in_ok-push-2 w ↦
          building_same c.args.bits.now (c.bits.one-index + 1) c.if-one.letters.items c.if-one.parents.items c.if-one.parents.items 0 c.if-one.stems w.stems-is refl
          (building_one c.args.bits.now c.bits.one-index c.bits.letters.items c.if-one.letters.items c.bits.parents.items c.if-one.parents.items c.bits.stems
          (prefix_bit c.args.bits.now c.bits.one-index true c.bits-test.true w.if-one.true) (cc w.in_ok-push-2.ensures.items) (cc w.in_ok-push.ensures.items) c.bits.invariant)
      | else-one+then-stems-lt2+in_ok-push-3 w ↦
          building_same c.args.bits.now (c.bits.one-index + 1) c.if-one.letters.items c.bits.parents.items c.if-one.parents.items (c.bits.stems + 1) c.if-one.stems w.stems-is (cc w.parents-is)
          (building_stem c.args.bits.now c.bits.one-index c.bits.letters.items c.if-one.letters.items c.bits.parents.items c.bits.stems
          (prefix_bit c.args.bits.now c.bits.one-index false c.bits-test.true w.if-one.false) (cc w.in_ok-push-3.ensures.items) w.if-stems-lt2.true c.bits.invariant)
      | else-one+else-stems-lt2+in_ok-push-4 w ↦
          building_same c.args.bits.now (c.bits.one-index + 1) c.if-one.letters.items w.pop.new.self.items c.if-one.parents.items w.unwrap-stems.result c.if-one.stems w.stems-is (cc w.parents-is)
          (building_close c.args.bits.now c.bits.one-index c.bits.letters.items c.if-one.letters.items c.bits.parents.items w.pop.new.self.items w.pop.result c.bits.stems w.unwrap-stems.result
          (prefix_bit c.args.bits.now c.bits.one-index false c.bits-test.true w.if-one.false) (cc w.in_ok-push-4.ensures.items) w.if-stems-lt2.false w.pop.ensures.items w.unwrap-stems.ensures c.bits.invariant)
    ]

pub returns : goal.returns
returns c =
    let a = c.bits-test.false in
    let b = c.bits.auto.one-index-end in
    let l = prefix_length c.args.bits.now in
    building_end c.args.bits.now c.bits.one-index c.bits.letters.items c.bits.parents.items c.bits.stems c.requires (omega (arith, a, b, l)) c.bits.invariant
