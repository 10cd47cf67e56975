use Rattle.std.proofs.Common.{arith, ◌+◌, rules, refl, ap, ℕ, Vec, Global}
use Rattle.pm_trees.proofs.Tables.{tallied_start, tallied_at, tallied_other, tallied_open, tallied_write, tallied_last, room_close, room_end, row_read, entries_fit, has_parent}
use Rattle.pm_trees.proofs.degrees.degree_counts.Goals as goal
use Rattle.pm_trees.proofs.degrees.degree_counts.Goals.{then-letter-eq-CLOSE, else-letter-eq-CLOSE+then-letter-eq-OPEN+in_ok-push, else-letter-eq-CLOSE+else-letter-eq-OPEN}

pub letters-init : goal.letters-init
letters-init c = tallied_start _ _ _ (search rules) (let e = c.new-parents.ensures.items in cc)

pub index_mut-requires : goal.index_mut-requires
index_mut-requires c =
    let h = (room_close _ _ _ _ _ c.requires c.if-letter-eq-CLOSE.true c.letters.invariant).within in
    omega (arith, c.letters.counts.ok)

pub overflow_add-index_mut : goal.overflow_add-index_mut
overflow_add-index_mut c =
    let room = room_close _ _ _ _ _ c.requires c.if-letter-eq-CLOSE.true c.letters.invariant in
    let h = room.fits in
    let s = c.requires.short in
    let v = row_read _ _ c.letters.entries (c.letters.entries + 1) c.index_mut.result.now 0 room (omega arith) c.index_mut.ensures.value in
    omega arith

pub unwrap-entries-requires : goal.unwrap-entries-requires
unwrap-entries-requires c = c.pop.ensures.variant.1 (let h = has_parent _ _ _ _ _ c.requires.in_order.matched c.if-letter-eq-CLOSE.true c.letters.invariant in omega arith)

pub overflow_add-entries : goal.overflow_add-entries
overflow_add-entries c = let h = entries_fit _ _ _ _ _ c.requires c.letters.invariant in omega arith

pub letters-preserved : goal.letters-preserved
letters-preserved c =
    elim c.if-letter-eq-CLOSE.branch [
      | then-letter-eq-CLOSE w ↦
          tallied_at _ _ _ _ _ _ _ _ (ap (λ (v : Vec ℕ Global). v.items) w.counts-is) (ap (λ (v : Vec ℕ Global). v.items) w.parents-is) w.entries-is
          (tallied_write _ c.letters.counts.items _ c.letters.parents.items _ w.pop.result c.letters.entries (c.letters.entries + 1) w.index_mut.result.now w.unwrap-entries.result c.letters.letter-index _ c.requires w.if-letter-eq-CLOSE.true (omega arith) w.index_mut.ensures.value
          refl w.pop.ensures.items w.unwrap-entries.ensures (omega arith) c.letters.invariant)
      | else-letter-eq-CLOSE+then-letter-eq-OPEN+in_ok-push w ↦
          tallied_at _ _ _ _ _ _ _ _ (ap (λ (v : Vec ℕ Global). v.items) w.counts-is) (ap (λ (v : Vec ℕ Global). v.items) w.parents-is) w.entries-is
          (tallied_open _ c.letters.counts.items c.letters.parents.items _ c.letters.entries (c.letters.entries + 1) c.letters.letter-index _ w.if-letter-eq-OPEN.true (omega arith) w.in_ok-push.ensures.items (omega arith) c.letters.invariant)
      | else-letter-eq-CLOSE+else-letter-eq-OPEN w ↦
          tallied_at _ _ _ _ _ _ _ _ (ap (λ (v : Vec ℕ Global). v.items) w.counts-is) (ap (λ (v : Vec ℕ Global). v.items) w.parents-is) w.entries-is
          (tallied_other _ c.letters.counts.items c.letters.parents.items c.letters.entries (c.letters.entries + 1) c.letters.letter-index _ c.letters-test.true
          (record { not_open = w.if-letter-eq-OPEN.false; not_close = w.if-letter-eq-CLOSE.false }) (omega arith) (omega arith) c.letters.invariant)
    ]

pub index_mut-requires-2 : goal.index_mut-requires-2
index_mut-requires-2 c =
    let h = (room_end _ _ _ _ c.letters.letter-index c.requires (omega arith) c.letters.invariant).within in
    omega (arith, c.letters.counts.ok)

pub overflow_add-index_mut-2 : goal.overflow_add-index_mut-2
overflow_add-index_mut-2 c =
    let room = room_end _ _ _ _ c.letters.letter-index c.requires (omega arith) c.letters.invariant in
    let h = room.fits in
    let s = c.requires.short in
    let v = row_read _ _ c.letters.entries (c.letters.entries + 1) c.index_mut-2.result.now 0 room (omega arith) c.index_mut-2.ensures.value in
    omega arith

pub returns : goal.returns
returns c = tallied_last _ c.letters.counts.items _ _ c.letters.entries (c.letters.entries + 1) c.index_mut-2.result.now c.letters.letter-index c.requires (omega arith) (omega arith) c.index_mut-2.ensures.value refl c.letters.invariant
