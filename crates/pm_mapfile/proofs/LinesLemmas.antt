-- The lines of a map text and the rotation that they tell.
use Rattle.std.proofs.Common.{◌≡◌, ℕ, ◌+◌, ◌-◌, ◌*◌, ◌<◌, inl, inr, List, [], ◌∷◌, ◌++◌, length, drop, get_or, map, refl, sym, ap, ◌∙◌, subst, arith, length-append, get_or-append-add, Contains}
use Rattle.std.specs.Prelude.{All, sum}
use Rattle.std.specs.List.{concat}
use Rattle.std.proofs.lemmas.List.{get_or_append_left, get_or_push}
use Rattle.std.proofs.lemmas.List.Elements.{All-nil, All-head, All-tail, All-cons, All-append, Contains-append_cases, Contains-append_left, Contains-append_right}
use Rattle.std.proofs.Math.Seq.{take-append_seam, drop-append_seam}
use Rattle.pm_perm.proofs.Contained.{contains_at, is_at}
use Rattle.pm_perm.specs.Permutation.{IsPermutationList}
use Rattle.pm_map.specs.Missing.{IsLeastMissing}
use Rattle.pm_perm.proofs.InverseLemmas.{standing_permutes}
use Rattle.pm_mapfile.specs.MapFile.{MapLines, IsVertexLine, AreMapLines}
use Rattle.pm_mapfile.specs.Vertices.{GoesAround, IsRotationOf}
use Rattle.pm_mapfile.specs.steps.Rotation.{turned, turned_lines, AreSizes, CarriesOn, TellsLines}
use Rattle.pm_mapfile.proofs.RotationLemmas.{length-turned, sum-cons}

-- the sizes of the lines
sizes_some : (darts : ℕ) (vertices : List (List ℕ)) → All (IsVertexLine darts) vertices → All (λ size. 0 < size) (map length vertices)
sizes_some darts [] each = All-nil (λ size. 0 < size)
sizes_some darts (v ∷ vertices) each =
    All-cons (λ size. 0 < size) (length v) (map length vertices) (All-head (IsVertexLine darts) v vertices each).some
    (sizes_some darts vertices (All-tail (IsVertexLine darts) v vertices each))

sizes_total : (vertices : List (List ℕ)) → sum (map length vertices) ≡ length (concat vertices)
sizes_total [] = refl
sizes_total (v ∷ vertices) = omega (arith, sum-cons (length v) (map length vertices), sizes_total vertices, length-append v (concat vertices))

pub sizes_of_lines : (m : MapLines) → AreMapLines m → AreSizes (map length m.vertices) (length (concat m.vertices))
sizes_of_lines m are = record { some = sizes_some (2 * m.edges) m.vertices are.each; total = sizes_total m.vertices }

-- each dart of the lines is below their number
below_of : (darts : ℕ) (vertices : List (List ℕ)) → All (IsVertexLine darts) vertices → All (λ dart. dart < darts) (concat vertices)
below_of darts [] each = All-nil (λ dart. dart < darts)
below_of darts (v ∷ vertices) each =
    All-append (λ dart. dart < darts) v (concat vertices) (All-head (IsVertexLine darts) v vertices each).below
    (below_of darts vertices (All-tail (IsVertexLine darts) v vertices each))

pub lines_below : (m : MapLines) → AreMapLines m → All (λ dart. dart < length (concat m.vertices)) (concat m.vertices)
lines_below m are = subst (λ n. All (λ dart. dart < n) (concat m.vertices)) (sym are.count) (below_of (2 * m.edges) m.vertices are.each)

-- the lines turned are each line turned
turned_concat : (vertices : List (List ℕ)) → turned_lines (map length vertices) (concat vertices) ≡ concat (map turned vertices)
turned_concat [] = refl
turned_concat (v ∷ vertices) =
    ap (λ l. turned l ++ turned_lines (map length vertices) (drop (length v) (v ++ concat vertices))) (take-append_seam v (concat vertices))
    ∙ ap (λ l. turned v ++ turned_lines (map length vertices) l) (drop-append_seam v (concat vertices))
    ∙ ap (λ l. turned v ++ l) (turned_concat vertices)

-- what stands on a line stands on it turned
stands_turned : (v : List ℕ) (d : ℕ) → Contains v d → Contains (turned v) d
stands_turned [] d s = s
stands_turned (x ∷ xs) d s =
    elim (Contains-append_cases (x ∷ []) xs d s) [
      | inl first ↦ Contains-append_right xs (x ∷ []) d first
      | inr later ↦ Contains-append_left xs (x ∷ []) d later
    ]

stands_turned_lines : (vertices : List (List ℕ)) (d : ℕ) → Contains (concat vertices) d → Contains (concat (map turned vertices)) d
stands_turned_lines [] d s = s
stands_turned_lines (v ∷ vertices) d s =
    elim (Contains-append_cases v (concat vertices) d s) [
      | inl here ↦ Contains-append_left (turned v) (concat (map turned vertices)) d (stands_turned v d here)
      | inr later ↦ Contains-append_right (turned v) (concat (map turned vertices)) d (stands_turned_lines vertices d later)
    ]

-- every dart stands on a line
pub carried_stand : (darts after sigma : List ℕ) → CarriesOn darts after sigma → (d : ℕ) → d < length darts → Contains darts d
carried_stand darts after sigma c d h = let f = c.each d h in (contains_at _ _ f.place f.within f.here)

-- so each place of the lines carries on
pub carries_places : (darts after sigma : List ℕ) → CarriesOn darts after sigma → (place : ℕ) → place < length darts → get_or sigma (get_or darts place 0) 0 ≡ get_or after place 0
carries_places darts after sigma c place h =
    let permutes : IsPermutationList darts = standing_permutes darts (carried_stand darts after sigma c) in
    let f = c.each (get_or darts place 0) (permutes.stays place h) in
    let same : f.place ≡ place = permutes.injective f.place place f.within h f.here in
    f.is_next ∙ ap (λ n. get_or after n 0) same

-- a line around which the places carry on
goes_around : (sigma v : List ℕ) → 0 < length v → ((k : ℕ) → k < length v → get_or sigma (get_or v k 0) 0 ≡ get_or (turned v) k 0) → GoesAround sigma v
goes_around sigma [] some carry = absurd (omega arith)
goes_around sigma (x ∷ xs) some carry = record {
  goes = λ k h. carry k (omega arith) ∙ get_or_append_left xs (x ∷ []) 0 k (omega arith);
  closes = carry (length (x ∷ xs) - 1) (omega arith) ∙ get_or_push xs x 0 (length (x ∷ xs) - 1) (omega arith);
}

all_go_around : (sigma : List ℕ) (darts : ℕ) (vertices : List (List ℕ)) → All (IsVertexLine darts) vertices
    → ((p : ℕ) → p < length (concat vertices) → get_or sigma (get_or (concat vertices) p 0) 0 ≡ get_or (concat (map turned vertices)) p 0) → All (GoesAround sigma) vertices
all_go_around sigma darts [] each carry = All-nil (GoesAround sigma)
all_go_around sigma darts (v ∷ vertices) each carry =
    let rest = concat vertices in
    let turns = concat (map turned vertices) in
    All-cons (GoesAround sigma) v vertices
    (goes_around sigma v (All-head (IsVertexLine darts) v vertices each).some
    (λ k h. ap (λ d. get_or sigma d 0) (sym (get_or_append_left v rest 0 k h)) ∙ carry k (omega (arith, length-append v rest))
    ∙ get_or_append_left (turned v) turns 0 k (omega (arith, length-turned v))))
    (all_go_around sigma darts vertices (All-tail (IsVertexLine darts) v vertices each)
    (λ p h. ap (λ d. get_or sigma d 0) (sym (get_or-append-add v rest p 0)) ∙ carry (length v + p) (omega (arith, length-append v rest))
    ∙ ap (λ n. get_or (turned v ++ turns) (n + p) 0) (sym (length-turned v)) ∙ get_or-append-add (turned v) turns p 0))

-- the rotation of the lines
pub rotation_of : (m : MapLines) (sigma : List ℕ) → AreMapLines m → CarriesOn (concat m.vertices) (turned_lines (map length m.vertices) (concat m.vertices)) sigma
    → IsRotationOf m.vertices sigma
rotation_of m sigma are carries =
    let c : CarriesOn (concat m.vertices) (concat (map turned m.vertices)) sigma = subst (λ l. CarriesOn (concat m.vertices) l sigma) (turned_concat m.vertices) carries in
    record {
      size = c.size;
      stand = λ d h. carried_stand (concat m.vertices) (concat (map turned m.vertices)) sigma c d (omega (arith, c.size));
      around = all_go_around sigma (2 * m.edges) m.vertices are.each (carries_places (concat m.vertices) (concat (map turned m.vertices)) sigma c);
    }

-- it leaves out no dart
pub rotation_is_whole : (m : MapLines) (sigma : List ℕ) (dart : ℕ) → CarriesOn (concat m.vertices) (turned_lines (map length m.vertices) (concat m.vertices)) sigma
    → IsLeastMissing sigma dart → ⊥
rotation_is_whole m sigma dart carries missing =
    let darts = concat m.vertices in
    let turns = concat (map turned m.vertices) in
    let c : CarriesOn darts turns sigma = subst (λ l. CarriesOn darts l sigma) (turned_concat m.vertices) carries in
    let s = stands_turned_lines m.vertices dart (carried_stand darts turns sigma c dart (omega (arith, missing.within, c.size))) in
    let turns_length : length turns ≡ length darts = length-turns m.vertices in
    let within : s.0 < length darts = omega (arith, s.1) in
    let permutes : IsPermutationList darts = standing_permutes darts (carried_stand darts turns sigma c) in
    let below : get_or darts s.0 0 < length darts = permutes.stays s.0 within in
    missing.breaks (contains_at _ _ (get_or darts s.0 0) (omega (arith, c.size)) (carries_places darts turns sigma c s.0 within ∙ (is_at _ _ s))) where
      length-turns : (vertices : List (List ℕ)) → length (concat (map turned vertices)) ≡ length (concat vertices)
      length-turns [] = refl
      length-turns (v ∷ vertices) = omega (arith, length-append (turned v) (concat (map turned vertices)), length-append v (concat vertices), length-turned v, length-turns vertices)

-- what the reader tells of the lines, for the rotation
pub sizes_of_text : (edges root : ℕ) (darts sizes : List ℕ) → TellsLines edges root darts sizes → AreSizes sizes (length darts)
sizes_of_text edges root darts sizes t =
    subst (λ l. AreSizes l (length darts)) (sym t.sizes_are)
    (subst (λ l. AreSizes (map length t.vertices) (length l)) (sym t.darts_are) (sizes_of_lines (record { edges = edges; root = root; vertices = t.vertices }) t.are_lines))

pub text_below : (edges root : ℕ) (darts sizes : List ℕ) → TellsLines edges root darts sizes → All (λ dart. dart < length darts) darts
text_below edges root darts sizes t =
    subst (λ l. All (λ dart. dart < length l) l) (sym t.darts_are) (lines_below (record { edges = edges; root = root; vertices = t.vertices }) t.are_lines)
