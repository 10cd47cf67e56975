-- The closure of a blossoming tree (Schaeffer 1997). Its darts are the places of the contour, the plant at place 0.
use Rattle.std.specs.Prelude.{◌≡◌, ◌≢◌, ℕ, suc, ◌%◌, ◌<◌, List, length, slice_index}
use Rattle.pm_brackets.specs.declared.letters.TheConstants.{OPEN, CLOSE}
use Rattle.pm_brackets.specs.Word.{IsBracketPair}
use Rattle.pm_match.specs.Pair.{IsPair, IsFree}
use Rattle.pm_map.specs.Structure.{Structure, CarriesTo}
use Rattle.pm_map.specs.Rotation.{RotationSystem, structure_of}
use Rattle.pm_map.specs.EdgeNumbers.{dart_of}

-- the place across: the other bracket of a bracket, and each other place itself
pub data IsAcross (places : List ℕ) (p q : ℕ) : Type 0 where
  from_open : IsBracketPair places p q → IsAcross places p q
  from_close : IsBracketPair places q p → IsAcross places p q
  from_letter : slice_index places p ≢ OPEN → slice_index places p ≢ CLOSE → p ≡ q → IsAcross places p q

-- the two brackets of an edge, the two places of a pair, and the two free leaves
pub data AreTwins (places : List ℕ) (p q : ℕ) : Type 0 where
  edge_down : IsBracketPair places p q → AreTwins places p q
  edge_up : IsBracketPair places q p → AreTwins places p q
  pair_bud : IsPair places p q → AreTwins places p q
  pair_leaf : IsPair places q p → AreTwins places p q
  free_leaves : IsFree places p → IsFree places q → p ≢ q → AreTwins places p q

-- The closure on places. Around a node the rotation runs from the `)` of its edge to its parent (from the plant, for the
-- root node) through its entries in order, a child standing as its `(`, and back: from each place to the one after the
-- place across, along the ring of places. The root is the plant.
pub record IsClosure (places : List ℕ) (closure : Structure) : Type 0 where
  pub darts : closure.darts ≡ length places
  pub rotation : (p q : ℕ) → p < length places → IsAcross places p q → closure.next p ≡ suc q % length places
  pub twins : (p : ℕ) → p < length places → AreTwins places p (closure.twin p)
  pub root : closure.root ≡ 0

-- the closure as a map: the closure on places, so numbered
pub record IsClosed (places : List ℕ) (map : RotationSystem) : Type 0 where
  pub closure : Structure
  pub is_closure : IsClosure places closure
  pub carries : CarriesTo (dart_of closure.twin) closure (structure_of map)
