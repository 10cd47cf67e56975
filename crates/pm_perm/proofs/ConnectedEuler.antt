-- A connected part map has at most two more vertices and faces than edges.
use Rattle.std.proofs.Common.{◌≡◌, ℕ, zero, suc, ◌+◌, ◌<◌, ◌≤◌, Bool, true, not, cond, eqb, IsTrue, inl, inr, refl, ap, sym, ◌∙◌, arith, eq-eqb, ne_eqb, eqb-true}
use Rattle.std.proofs.lemmas.Bool.{cases_eq, cases_lt, cond-true, cond-false, false≢true}
use Rattle.pm_perm.specs.Count.{count_below}
use Rattle.pm_perm.specs.Cycles.{leader}
use Rattle.pm_perm.specs.PartMap.{PartMap, IsPartMap, part_face, part_vertices, part_edges, part_faces, IsPartConnected, IsJoined}
use Rattle.pm_perm.proofs.Counts.{count_below-le, count_below-none, one_passes, some_pass}
use Rattle.pm_perm.proofs.Sums.{count_below-sum, sum_below-one}
use Rattle.pm_perm.proofs.LeaderMaps.{leader-map}
use Rattle.pm_perm.proofs.PartMaps.{part_face-permutes, cut-law}
use Rattle.pm_perm.proofs.PartPairs.{cycles-pairs_at_most}
use Rattle.pm_perm.proofs.SameCycle.{in_cycle-leader}

-- the part map with the edge of a dart cut
cut_twin : PartMap → ℕ → ℕ → ℕ
cut_twin m d k = cond (eqb k d) k (cond (eqb k (m.twin d)) k (m.twin k))

cut_twin-first : (m : PartMap) (d k : ℕ) → k ≡ d → cut_twin m d k ≡ k
unfolding cut_twin
cut_twin-first m d k e = cond-true (eqb k d) k (cond (eqb k (m.twin d)) k (m.twin k)) (eq-eqb k d e)

cut_twin-second : (m : PartMap) (d k : ℕ) → (k ≡ d → ⊥) → k ≡ m.twin d → cut_twin m d k ≡ k
unfolding cut_twin
cut_twin-second m d k n e =
    cond-false (eqb k d) k (cond (eqb k (m.twin d)) k (m.twin k)) (ne_eqb k d n) ∙ cond-true (eqb k (m.twin d)) k (m.twin k) (eq-eqb k (m.twin d) e)

cut_twin-other : (m : PartMap) (d k : ℕ) → (k ≡ d → ⊥) → (k ≡ m.twin d → ⊥) → cut_twin m d k ≡ m.twin k
unfolding cut_twin
cut_twin-other m d k n o =
    cond-false (eqb k d) k (cond (eqb k (m.twin d)) k (m.twin k)) (ne_eqb k d n) ∙ cond-false (eqb k (m.twin d)) k (m.twin k) (ne_eqb k (m.twin d) o)

cut_at : PartMap → ℕ → PartMap
cut_at m d = record { darts = m.darts; next = m.next; twin = cut_twin m d }

cut-joined : (m : PartMap) (d : ℕ) → IsPartMap m → d < m.darts → (d ≡ m.twin d → ⊥) → IsJoined (cut_at m d) m d (m.twin d)
unfolding cut_at
cut-joined m d p h differ = record {
  same_darts = refl;
  first = h;
  second = p.twins.stays d h;
  differ = differ;
  first_stem = cut_twin-first m d d refl;
  second_stem = cut_twin-second m d (m.twin d) (λ e. differ (sym e)) refl;
  first_twin = refl;
  second_twin = p.twins.twice d h;
  same_next = λ k l. refl;
  same_twin = λ k l n o. sym (cut_twin-other m d k n o);
}

-- where both darts of each edge are in one face, there is one face
one_leader : (m : PartMap) → IsPartMap m → (c : IsPartConnected m) → ((d : ℕ) → d < m.darts → leader m.darts (part_face m) d ≡ leader m.darts (part_face m) (m.twin d))
    → (d : ℕ) → d < m.darts → leader m.darts (part_face m) d ≡ leader m.darts (part_face m) c.from
one_leader m p c alike d h =
    let lead : ℕ → ℕ = leader m.darts (part_face m) in
    let along = (leader-map m.darts (part_face m) (part_face-permutes m p)).along in
    let here : (a b : ℕ) → lead a ≡ lead b → IsTrue (eqb (lead b) (lead c.from)) → IsTrue (eqb (lead a) (lead c.from)) = λ a b e holds. eq-eqb (lead a) (lead c.from) (e ∙ eqb-true (lead b) (lead c.from) holds) in
    eqb-true (lead d) (lead c.from) (c.reaches (λ k. eqb (lead k) (lead c.from)) (eq-eqb (lead c.from) (lead c.from) refl) (record {
      under_next = λ k l holds. here (m.next k) k (ap lead (ap m.next (sym (p.twins.twice k l))) ∙ along (m.twin k) (p.twins.stays k l) ∙ sym (alike k l)) holds;
      under_twin = λ k l holds. here (m.twin k) k (sym (alike k l)) holds;
    }) d h)

one_face : (n : ℕ) (lead : ℕ → ℕ) (a : ℕ) → ((k : ℕ) → k < n → lead k ≡ a) → count_below (λ k. eqb (lead k) k) n ≤ 1
one_face zero lead a same = omega arith
one_face (suc n) lead a same =
    let few : count_below (λ k. eqb (lead k) k) (suc n) ≤ count_below (λ k. eqb a k) (suc n) =
    count_below-le (λ k. eqb (lead k) k) (λ k. eqb a k) (suc n) (λ k l e. eq-eqb a k (sym (same k l) ∙ eqb-true (lead k) k e)) in
    let one = at_most_one a (suc n) in
    omega (arith, few, one) where
      at_most_one : (a n : ℕ) → count_below (λ k. eqb a k) n ≤ 1
      at_most_one a n = elim (cases_lt a n) [
        | inl l ↦ (let e = count_below-sum (λ k. eqb a k) n ∙ sum_below-one 1 a n l in omega (arith, e))
        | inr g ↦ (let e = count_below-none (λ k. eqb a k) n (λ k l. ne_eqb a k (λ same. omega arith)) in omega (arith, e))
      ]

one_face_euler : (m : PartMap) → IsPartMap m → IsPartConnected m → ((d : ℕ) → d < m.darts → leader m.darts (part_face m) d ≡ leader m.darts (part_face m) (m.twin d))
    → part_vertices m + part_faces m ≤ part_edges m + 2
one_face_euler m p c alike =
    let one : part_faces m ≤ 1 = one_face m.darts (leader m.darts (part_face m)) (leader m.darts (part_face m) c.from) (one_leader m p c alike) in
    let few = cycles-pairs_at_most m.darts m.next (part_face m) m.twin (part_face-permutes m p) p.twins (record { value = λ k l. ap m.next (sym (p.twins.twice k l)) }) in
    omega (arith, one, few)

-- an edge in two faces, or none
crosses : PartMap → ℕ → Bool
crosses m d = not (eqb (leader m.darts (part_face m) d) (leader m.darts (part_face m) (m.twin d)))

crosses-apart : (m : PartMap) (d : ℕ) → crosses m d ≡ true → leader m.darts (part_face m) d ≡ leader m.darts (part_face m) (m.twin d) → ⊥
unfolding crosses
crosses-apart m d c e = false≢true (sym (ap not (eq-eqb (leader m.darts (part_face m) d) (leader m.darts (part_face m) (m.twin d)) e)) ∙ c)

crosses-if_apart : (m : PartMap) (d : ℕ) → (leader m.darts (part_face m) d ≡ leader m.darts (part_face m) (m.twin d) → ⊥) → crosses m d ≡ true
unfolding crosses
crosses-if_apart m d apart = ap not (ne_eqb (leader m.darts (part_face m) d) (leader m.darts (part_face m) (m.twin d)) apart)

-- an edge in two faces is cut
cut_step : (m : PartMap) → IsPartMap m → IsPartConnected m → (d : ℕ) → d < m.darts → (leader m.darts (part_face m) d ≡ leader m.darts (part_face m) (m.twin d) → ⊥)
    → ((m' : PartMap) → part_edges m' + 1 ≡ part_edges m → IsPartMap m' → IsPartConnected m' → part_vertices m' + part_faces m' ≤ part_edges m' + 2)
    → part_vertices m + part_faces m ≤ part_edges m + 2
cut_step m p c d h apart fewer =
    let differ : d ≡ m.twin d → ⊥ = λ e. apart (ap (leader m.darts (part_face m)) e) in
    let joined = cut-joined m d p h differ in
    let cut = cut-law (cut_at m d) m d (m.twin d) p joined (λ met. apart (in_cycle-leader m.darts (part_face m) (part_face-permutes m p) d (m.twin d) h met)) in
    let vertices = cut.counts.vertices in
    let edges = cut.counts.edges in
    let faces = cut.counts.faces in
    let before = fewer (cut_at m d) (sym edges) cut.is_part_map (cut.connected c) in
    omega (arith, vertices, edges, faces, before)

cut_or_one : (m : PartMap) → IsPartMap m → IsPartConnected m
    → ((m' : PartMap) → part_edges m' + 1 ≡ part_edges m → IsPartMap m' → IsPartConnected m' → part_vertices m' + part_faces m' ≤ part_edges m' + 2)
    → part_vertices m + part_faces m ≤ part_edges m + 2
cut_or_one m p c fewer = elim (cases_lt 0 (count_below (crosses m) m.darts)) [
  | inl some ↦ (let found = one_passes (crosses m) m.darts some in cut_step m p c found.0 found.1 (crosses-apart m found.0 found.2) fewer)
  | inr none ↦ one_face_euler m p c (λ d h. elim (cases_eq (leader m.darts (part_face m) d) (leader m.darts (part_face m) (m.twin d))) [
    | inl same ↦ same
    | inr apart ↦ absurd (let some = some_pass (crosses m) d m.darts h (crosses-if_apart m d apart) in omega (arith, some, none))
  ])
]

by_edges : (edges : ℕ) (m : PartMap) → part_edges m ≡ edges → IsPartMap m → IsPartConnected m → part_vertices m + part_faces m ≤ part_edges m + 2
by_edges zero m counted p c = cut_or_one m p c (λ m' e _ _. absurd (omega (arith, e, counted)))
by_edges (suc edges) m counted p c = cut_or_one m p c (λ m' e p' c'. by_edges edges m' (omega (arith, e, counted)) p' c')

pub connected_euler : (m : PartMap) → IsPartMap m → IsPartConnected m → part_vertices m + part_faces m ≤ part_edges m + 2
connected_euler m p c = by_edges (part_edges m) m refl p c
