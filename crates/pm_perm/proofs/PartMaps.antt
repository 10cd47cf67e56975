-- The laws of part maps: what joining two stems, cutting an edge and renumbering the darts leave of vertices, edges,
-- faces and connectedness.
use Rattle.std.proofs.Common.{◌≡◌, ℕ, zero, suc, ◌+◌, ◌<◌, inl, inr, Bool, IsTrue, sym, ap, subst, ◌∙◌, refl, arith}
use Rattle.std.proofs.lemmas.Bool.{cases_eq}
use Rattle.pm_perm.specs.Permutation.{IsPermutationBelow}
use Rattle.pm_perm.specs.Cycles.{repeated, leader, cycles, IsInCycle}
use Rattle.pm_perm.specs.Exchange.{IsExchangeBelow}
use Rattle.pm_perm.specs.Pairs.{IsInvolutionBelow, pairs}
use Rattle.pm_perm.specs.PartMap.{PartMap, IsPartMap, part_face, part_vertices, part_edges, part_faces, IsPartClosed, ReachesAll, IsPartConnected, IsJoined, CarriesPart}
use Rattle.pm_perm.specs.PartMapLaws.{JoinedCounts, JoinLaw, JoinSplitsFace, CutLaw, CutMergesFaces, OtherFacesStay, RenumberingKeeps}
use Rattle.pm_perm.proofs.InverseLemmas.{place_of, place_of-permutes, value-place_of}
use Rattle.pm_perm.proofs.Repeats.{repeated-inside}
use Rattle.pm_perm.proofs.SameCycle.{in_cycle-leader, leader-in_cycle, cycles-same}
use Rattle.pm_perm.proofs.CycleLists.{cycle-left, cycle-splits, cycles-join}
use Rattle.pm_perm.proofs.Merged.{exchange-back, exchange-permutes, IsMerged, exchange-merges}
use Rattle.pm_perm.proofs.Parted.{exchange-parts}
use Rattle.pm_perm.proofs.Renumbered.{cycles-renumbered, product-permutes}
use Rattle.pm_perm.proofs.PartPairs.{involution-permutes}
use Rattle.pm_perm.proofs.PairCounts.{pairs-one_more, pairs-renumbered}

-- the face rule is a permutation
pub part_face-permutes : (m : PartMap) → IsPartMap m → IsPermutationBelow m.darts (part_face m)
part_face-permutes m p = product-permutes m.darts (part_face m) m.next m.twin p.rotation (involution-permutes m.darts m.twin p.twins) (record { value = λ k h. refl })

-- a test along an equation
holds_at : (holds : ℕ → Bool) (a b : ℕ) → a ≡ b → IsTrue (holds a) → IsTrue (holds b)
holds_at holds a b e h = let P : ℕ → Type 0 = λ d. IsTrue (holds d) in subst P e h

-- the joined part map is one
pub joined-part_map : (m m' : PartMap) (x y : ℕ) → IsPartMap m → IsJoined m m' x y → IsPermutationBelow m.darts m'.next × IsInvolutionBelow m.darts m'.twin
joined-part_map m m' x y p j =
    let r : IsPermutationBelow m.darts m.next = p.rotation in
    let v : IsInvolutionBelow m.darts m.twin = p.twins in (
      record {
        stays = λ k h. omega (arith, r.stays k h, j.same_next k h);
        injective = λ i k hi hk e. r.injective i k hi hk (sym (j.same_next i hi) ∙ e ∙ j.same_next k hk);
      },
      record {
        stays = λ k h. elim (cases_eq k x) [
          | inl e ↦ omega (arith, ap m'.twin e, j.first_twin, j.second)
          | inr nx ↦ elim (cases_eq k y) [ inl e ↦ omega (arith, ap m'.twin e, j.second_twin, j.first) | inr ny ↦ omega (arith, j.same_twin k h nx ny, v.stays k h) ]
        ];
        twice = λ k h. elim (cases_eq k x) [
          | inl e ↦ ap (λ d. m'.twin (m'.twin d)) e ∙ ap m'.twin j.first_twin ∙ j.second_twin ∙ sym e
          | inr nx ↦ elim (cases_eq k y) [
            | inl e ↦ ap (λ d. m'.twin (m'.twin d)) e ∙ ap m'.twin j.second_twin ∙ j.first_twin ∙ sym e
            | inr ny ↦
                let same : m'.twin k ≡ m.twin k = j.same_twin k h nx ny in
                let not_x : m.twin k ≡ x → ⊥ = λ e. nx (sym (v.twice k h) ∙ ap m.twin e ∙ j.first_stem) in
                let not_y : m.twin k ≡ y → ⊥ = λ e. ny (sym (v.twice k h) ∙ ap m.twin e ∙ j.second_stem) in
                ap m'.twin same ∙ j.same_twin (m.twin k) (v.stays k h) not_x not_y ∙ v.twice k h
          ]
        ];
      },
    )

-- joining exchanges two values of the face rule
pub joined-exchange : (m m' : PartMap) (x y : ℕ) → IsPartMap m → IsJoined m m' x y → IsExchangeBelow m.darts (part_face m) (part_face m') x y
joined-exchange m m' x y p j =
    let v : IsInvolutionBelow m.darts m.twin = p.twins in
    record {
      at_first = ap m'.next j.first_twin ∙ j.same_next y j.second ∙ ap m.next (sym j.second_stem);
      at_second = ap m'.next j.second_twin ∙ j.same_next x j.first ∙ ap m.next (sym j.first_stem);
      elsewhere = λ k h nx ny. ap m'.next (j.same_twin k h nx ny) ∙ j.same_next (m.twin k) (v.stays k h);
    }

joined_edges : (m m' : PartMap) (x y : ℕ) → IsJoined m m' x y → pairs m.darts m'.twin ≡ pairs m.darts m.twin + 1
joined_edges m m' x y j = pairs-one_more m.darts m.twin m'.twin x y j.differ (record {
  first = j.first;
  second = j.second;
  first_alone = j.first_stem;
  second_alone = j.second_stem;
  first_partner = j.first_twin;
  second_partner = j.second_twin;
  elsewhere = j.same_twin;
})

-- The join law: two different stems of one face, made twins, keep the vertices and make one edge and one face more.
pub join-counts : (m m' : PartMap) (x y : ℕ) → IsPartMap m → IsJoined m m' x y → leader m.darts (part_face m) x ≡ leader m.darts (part_face m) y → JoinedCounts m m'
join-counts m m' x y p j one =
    let f : IsPermutationBelow m.darts (part_face m) = part_face-permutes m p in
    let swapped : IsExchangeBelow m.darts (part_face m) (part_face m') x y = joined-exchange m m' x y p j in
    let f' : IsPermutationBelow m.darts (part_face m') = exchange-permutes m.darts (part_face m) (part_face m') x y f j.first j.second swapped in
    let back : IsMerged m.darts (part_face m') (part_face m) x y = exchange-merges m.darts (part_face m') (part_face m) x y f' j.first j.second
    (exchange-back m.darts (part_face m) (part_face m') x y swapped) (exchange-parts m.darts (part_face m) (part_face m') x y f j.first j.second swapped j.differ one) in
    record {
      vertices = ap (λ n. cycles n m'.next) (sym j.same_darts) ∙ sym (cycles-same m.darts m.next m'.next p.rotation (λ k h. sym (j.same_next k h)));
      edges = ap (λ n. pairs n m'.twin) (sym j.same_darts) ∙ joined_edges m m' x y j;
      faces = ap (λ n. cycles n (part_face m')) (sym j.same_darts) ∙ sym back.fewer;
    }

-- after the cut the stems are in one face
pub cut-one_face : (m m' : PartMap) (x y : ℕ) → IsPartMap m → IsJoined m m' x y → (leader m.darts (part_face m') x ≡ leader m.darts (part_face m') y → ⊥) → leader m.darts (part_face m) x ≡ leader m.darts (part_face m) y
cut-one_face m m' x y p j apart =
    let swapped : IsExchangeBelow m.darts (part_face m) (part_face m') x y = joined-exchange m m' x y p j in
    let f' : IsPermutationBelow m.darts (part_face m') = exchange-permutes m.darts (part_face m) (part_face m') x y (part_face-permutes m p) j.first j.second swapped in
    let merged : IsMerged m.darts (part_face m') (part_face m) x y =
    exchange-merges m.darts (part_face m') (part_face m) x y f' j.first j.second (exchange-back m.darts (part_face m) (part_face m') x y swapped) apart in
    merged.one_cycle

-- The cut law: an edge whose two darts are in different faces, made two stems, keeps the vertices and leaves one edge
-- and one face fewer; the stems are then in one face.
pub cut-counts : (m m' : PartMap) (x y : ℕ) → IsPartMap m → IsJoined m m' x y → (leader m.darts (part_face m') x ≡ leader m.darts (part_face m') y → ⊥) → JoinedCounts m m'
cut-counts m m' x y p j apart = join-counts m m' x y p j (cut-one_face m m' x y p j apart)

-- joining keeps what is reached
pub join-reaches : (m m' : PartMap) (x y from : ℕ) → IsJoined m m' x y → ReachesAll m from → ReachesAll m' from
join-reaches m m' x y from j all holds begins closed d h = all holds begins (before m m' x y holds j closed) d (omega (arith, h, j.same_darts)) where
  before : (m m' : PartMap) (x y : ℕ) (holds : ℕ → Bool) → IsJoined m m' x y → IsPartClosed m' holds → IsPartClosed m holds
  before m m' x y holds j closed = record {
    under_next = λ d h here. holds_at holds (m'.next d) (m.next d) (j.same_next d h) (closed.under_next d (omega (arith, h, j.same_darts)) here);
    under_twin = λ d h here. elim (cases_eq d x) [
      | inl e ↦ holds_at holds d (m.twin d) (e ∙ sym j.first_stem ∙ ap m.twin (sym e)) here
      | inr nx ↦ elim (cases_eq d y) [
        | inl e ↦ holds_at holds d (m.twin d) (e ∙ sym j.second_stem ∙ ap m.twin (sym e)) here
        | inr ny ↦ holds_at holds (m'.twin d) (m.twin d) (j.same_twin d h nx ny) (closed.under_twin d (omega (arith, h, j.same_darts)) here)
      ]
    ];
  }

-- a closed set holds with a dart its face
closed_face : (m : PartMap) (holds : ℕ → Bool) → IsPartMap m → IsPartClosed m holds → (steps d : ℕ) → d < m.darts → IsTrue (holds d) → IsTrue (holds (repeated (part_face m) steps d))
closed_face m holds p closed zero d h here = here
closed_face m holds p closed (suc steps) d h here =
    let v : IsInvolutionBelow m.darts m.twin = p.twins in
    let inside : repeated (part_face m) steps d < m.darts = repeated-inside (part_face m) m.darts (part_face-permutes m p) steps d h in
    closed.under_next (m.twin (repeated (part_face m) steps d)) (v.stays (repeated (part_face m) steps d) inside)
    (closed.under_twin (repeated (part_face m) steps d) inside (closed_face m holds p closed steps d h here))

closed_one_face : (m : PartMap) (holds : ℕ → Bool) (x y : ℕ) → IsPartMap m → IsPartClosed m holds → x < m.darts → y < m.darts → leader m.darts (part_face m) x ≡ leader m.darts (part_face m) y
    → IsTrue (holds x) → IsTrue (holds y)
closed_one_face m holds x y p closed hx hy one here =
    let way : IsInCycle (part_face m) x y = leader-in_cycle m.darts (part_face m) (part_face-permutes m p) x y hx hy one in
    holds_at holds (repeated (part_face m) way.steps x) y way.leads (closed_face m holds p closed way.steps x hx here)

-- cutting an edge between two faces keeps what is reached
pub cut-reaches : (m m' : PartMap) (x y from : ℕ) → IsPartMap m → IsJoined m m' x y → leader m.darts (part_face m) x ≡ leader m.darts (part_face m) y → ReachesAll m' from → ReachesAll m from
cut-reaches m m' x y from p j one all holds begins closed d h = all holds begins (after m m' x y holds p j one closed) d (omega (arith, h, j.same_darts)) where
  after : (m m' : PartMap) (x y : ℕ) (holds : ℕ → Bool) → IsPartMap m → IsJoined m m' x y → leader m.darts (part_face m) x ≡ leader m.darts (part_face m) y → IsPartClosed m holds → IsPartClosed m' holds
  after m m' x y holds p j one closed = record {
    under_next = λ d h here. holds_at holds (m.next d) (m'.next d) (sym (j.same_next d (omega (arith, h, j.same_darts)))) (closed.under_next d (omega (arith, h, j.same_darts)) here);
    under_twin = λ d h here. elim (cases_eq d x) [
      | inl e ↦ holds_at holds y (m'.twin d) (sym (ap m'.twin e ∙ j.first_twin)) (closed_one_face m holds x y p closed j.first j.second one (holds_at holds d x e here))
      | inr nx ↦ elim (cases_eq d y) [
        | inl e ↦ holds_at holds x (m'.twin d) (sym (ap m'.twin e ∙ j.second_twin)) (closed_one_face m holds y x p closed j.second j.first (sym one) (holds_at holds d y e here))
        | inr ny ↦ holds_at holds (m.twin d) (m'.twin d) (sym (j.same_twin d (omega (arith, h, j.same_darts)) nx ny)) (closed.under_twin d (omega (arith, h, j.same_darts)) here)
      ]
    ];
  }

pub join-connected : (m m' : PartMap) (x y : ℕ) → IsJoined m m' x y → IsPartConnected m → IsPartConnected m'
join-connected m m' x y j c = record { from = c.from; within = omega (arith, c.within, j.same_darts); reaches = join-reaches m m' x y c.from j c.reaches }

pub cut-connected : (m m' : PartMap) (x y : ℕ) → IsPartMap m → IsJoined m m' x y → (leader m.darts (part_face m') x ≡ leader m.darts (part_face m') y → ⊥) → IsPartConnected m' → IsPartConnected m
cut-connected m m' x y p j apart c = record {
  from = c.from;
  within = omega (arith, c.within, j.same_darts);
  reaches = cut-reaches m m' x y c.from p j (cut-one_face m m' x y p j apart) c.reaches;
}

record SameCounts (a b : PartMap) : Type 0 where
  vertices : part_vertices a ≡ part_vertices b
  edges : part_edges a ≡ part_edges b
  faces : part_faces a ≡ part_faces b

-- renumbering the darts keeps vertices, edges and faces
renumber-counts : (rename : ℕ → ℕ) (a b : PartMap) → IsPartMap a → IsPartMap b → CarriesPart rename a b → SameCounts a b
renumber-counts rename a b pa pb c =
    let v : IsInvolutionBelow a.darts a.twin = pa.twins in
    let e : b.darts ≡ a.darts = sym c.same_darts in
    let rotation : IsPermutationBelow a.darts b.next = let P : ℕ → Type 0 = λ n. IsPermutationBelow n b.next in subst P e pb.rotation in
    let twins : IsInvolutionBelow a.darts b.twin = let P : ℕ → Type 0 = λ n. IsInvolutionBelow n b.twin in subst P e pb.twins in
    let face : IsPermutationBelow a.darts (part_face b) = let P : ℕ → Type 0 = λ n. IsPermutationBelow n (part_face b) in subst P e (part_face-permutes b pb) in
    record {
      vertices = cycles-renumbered a.darts rename a.next b.next pa.rotation rotation (record { permutes = c.renumbers; carries = c.next }) ∙ ap (λ n. cycles n b.next) c.same_darts;
      edges = pairs-renumbered a.darts rename a.twin b.twin pa.twins twins (record { permutes = c.renumbers; carries = c.twin }) ∙ ap (λ n. pairs n b.twin) c.same_darts;
      faces = cycles-renumbered a.darts rename (part_face a) (part_face b) (part_face-permutes a pa) face
          (record { permutes = c.renumbers; carries = λ k h. c.next (a.twin k) (v.stays k h) ∙ ap b.next (c.twin k h) }) ∙ ap (λ n. cycles n (part_face b)) c.same_darts;
    }

-- and connectedness
pub renumber-connected : (rename : ℕ → ℕ) (a b : PartMap) → CarriesPart rename a b → IsPartConnected a → IsPartConnected b
renumber-connected rename a b c w =
    let q : IsPermutationBelow a.darts rename = c.renumbers in
    record {
      from = rename w.from;
      within = omega (arith, q.stays w.from w.within, c.same_darts);
      reaches = λ holds begins closed d h.
          (let hd : d < a.darts = omega (arith, h, c.same_darts) in
          let back : IsPermutationBelow a.darts (place_of rename a.darts) = place_of-permutes rename a.darts c.renumbers in
          holds_at holds (rename (place_of rename a.darts d)) d (value-place_of rename a.darts d c.renumbers hd)
          (w.reaches (λ k. holds (rename k)) begins (record {
            under_next = λ k hk here. holds_at holds (b.next (rename k)) (rename (a.next k)) (sym (c.next k hk)) (closed.under_next (rename k) (omega (arith, q.stays k hk, c.same_darts)) here);
            under_twin = λ k hk here. holds_at holds (b.twin (rename k)) (rename (a.twin k)) (sym (c.twin k hk)) (closed.under_twin (rename k) (omega (arith, q.stays k hk, c.same_darts)) here);
          }) (place_of rename a.darts d) (back.stays d hd)));
    }

-- The renumbering law.
pub renumbering-law : (rename : ℕ → ℕ) (a b : PartMap) → IsPartMap a → IsPartMap b → CarriesPart rename a b → RenumberingKeeps a b
renumbering-law rename a b pa pb c =
    let counts : SameCounts a b = renumber-counts rename a b pa pb c in
    record { vertices = counts.vertices; edges = counts.edges; faces = counts.faces; connected = renumber-connected rename a b c }

-- The join law.
pub join-law : JoinLaw
join-law m m' x y p j met =
    let parts : IsPermutationBelow m.darts m'.next × IsInvolutionBelow m.darts m'.twin = joined-part_map m m' x y p j in
    let f : IsPermutationBelow m.darts (part_face m) = part_face-permutes m p in
    let swapped : IsExchangeBelow m.darts (part_face m) (part_face m') x y = joined-exchange m m' x y p j in
    let one = in_cycle-leader m.darts (part_face m) f x y j.first met in
    record {
      is_part_map = record {
        rotation = let P : ℕ → Type 0 = λ n. IsPermutationBelow n m'.next in subst P j.same_darts parts.0;
        twins = let P : ℕ → Type 0 = λ n. IsInvolutionBelow n m'.twin in subst P j.same_darts parts.1;
      };
      counts = join-counts m m' x y p j one;
      connected = join-connected m m' x y j;
      two_faces = λ still. exchange-parts m.darts (part_face m) (part_face m') x y f j.first j.second swapped j.differ one
          (in_cycle-leader m.darts (part_face m') (exchange-permutes m.darts (part_face m) (part_face m') x y f j.first j.second swapped) x y j.first still);
    }

pub join-splits_face : JoinSplitsFace
join-splits_face m m' x y first second p j c =
    cycle-splits m.darts (part_face m) (part_face m') x y first second (part_face-permutes m p) j.first (joined-exchange m m' x y p j) c

pub other-faces_stay : OtherFacesStay
other-faces_stay m m' x y d face p j h not_x not_y =
    cycle-left m.darts (part_face m) (part_face m') x y d face (part_face-permutes m p) j.first j.second h (joined-exchange m m' x y p j) not_x not_y

-- the cut part map is one
pub parted-part_map : (m m' : PartMap) (x y : ℕ) → IsPartMap m' → IsJoined m m' x y → IsPartMap m
parted-part_map m m' x y p j =
    let r : IsPermutationBelow m'.darts m'.next = p.rotation in
    let v : IsInvolutionBelow m'.darts m'.twin = p.twins in
    record {
      rotation = record {
        stays = λ k h. omega (arith, r.stays k (omega (arith, h, j.same_darts)), j.same_next k h, j.same_darts);
        injective = λ i k hi hk e. r.injective i k (omega (arith, hi, j.same_darts)) (omega (arith, hk, j.same_darts)) (j.same_next i hi ∙ e ∙ sym (j.same_next k hk));
      };
      twins = record {
        stays = λ k h. elim (cases_eq k x) [
          | inl e ↦ omega (arith, ap m.twin e, j.first_stem, j.first)
          | inr nx ↦ elim (cases_eq k y) [
            | inl e ↦ omega (arith, ap m.twin e, j.second_stem, j.second)
            | inr ny ↦ omega (arith, j.same_twin k h nx ny, v.stays k (omega (arith, h, j.same_darts)), j.same_darts)
          ]
        ];
        twice = λ k h. elim (cases_eq k x) [
          | inl e ↦ ap (λ d. m.twin (m.twin d)) e ∙ ap m.twin j.first_stem ∙ j.first_stem ∙ sym e
          | inr nx ↦ elim (cases_eq k y) [
            | inl e ↦ ap (λ d. m.twin (m.twin d)) e ∙ ap m.twin j.second_stem ∙ j.second_stem ∙ sym e
            | inr ny ↦
                let h' : k < m'.darts = omega (arith, h, j.same_darts) in
                let same : m'.twin k ≡ m.twin k = j.same_twin k h nx ny in
                let not_x : m'.twin k ≡ x → ⊥ = λ e. ny (sym (v.twice k h') ∙ ap m'.twin e ∙ j.first_twin) in
                let not_y : m'.twin k ≡ y → ⊥ = λ e. nx (sym (v.twice k h') ∙ ap m'.twin e ∙ j.second_twin) in
                ap m.twin (sym same) ∙ sym (j.same_twin (m'.twin k) (omega (arith, v.stays k h', j.same_darts)) not_x not_y) ∙ v.twice k h'
          ]
        ];
      };
    }

-- The cut law.
pub cut-law : CutLaw
cut-law m m' x y p j apart =
    let q : IsPartMap m = parted-part_map m m' x y p j in
    let f : IsPermutationBelow m.darts (part_face m) = part_face-permutes m q in
    let f' : IsPermutationBelow m.darts (part_face m') = exchange-permutes m.darts (part_face m) (part_face m') x y f j.first j.second (joined-exchange m m' x y q j) in
    let apart' : leader m.darts (part_face m') x ≡ leader m.darts (part_face m') y → ⊥ = λ e. apart (leader-in_cycle m.darts (part_face m') f' x y j.first j.second e) in
    record {
      is_part_map = q;
      counts = cut-counts m m' x y q j apart';
      connected = cut-connected m m' x y q j apart';
      one_face = leader-in_cycle m.darts (part_face m) f x y j.first j.second (cut-one_face m m' x y q j apart');
    }

pub cut-merges_faces : CutMergesFaces
cut-merges_faces m m' x y first second p j apart of_x of_y =
    let q : IsPartMap m = parted-part_map m m' x y p j in
    let swapped : IsExchangeBelow m.darts (part_face m) (part_face m') x y = joined-exchange m m' x y q j in
    let f' : IsPermutationBelow m.darts (part_face m') = exchange-permutes m.darts (part_face m) (part_face m') x y (part_face-permutes m q) j.first j.second swapped in
    cycles-join m.darts (part_face m') (part_face m) x y first second f' j.first j.second (exchange-back m.darts (part_face m) (part_face m') x y swapped) apart of_x of_y
