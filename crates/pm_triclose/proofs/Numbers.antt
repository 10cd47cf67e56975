-- The names of darts under other names, and twins that stand one behind another.
use Rattle.std.proofs.Common.{◌≡◌, ℕ, ◌<◌, ap, ◌∙◌, sym}
use Rattle.pm_map.specs.Structure.{Structure}
use Rattle.pm_triclose.specs.Closure.{AreNumbers, Dart, IsBehind, at_place, next_twin, no_more, twin_of}

-- other names, which lead to the names and back
pub record AreRenamed (IsNamed IsOther : Dart → Type 0) (AreFollowing AreEdges AreFollowingOthers AreOtherEdges : Dart → Dart → Type 0) (name other : Dart → Dart) : Type 0 where
  pub named : (x : Dart) → IsOther x → IsNamed (name x)
  pub others : (x : Dart) → IsNamed x → IsOther (other x)
  pub back : (x : Dart) → IsNamed x → name (other x) ≡ x
  pub there : (x : Dart) → IsOther x → other (name x) ≡ x
  pub root : name (at_place 0) ≡ at_place 0
  pub next : (x y : Dart) → IsOther x → AreFollowingOthers x y → AreFollowing (name x) (name y)
  pub twin : (x y : Dart) → IsOther x → AreOtherEdges x y → AreEdges (name x) (name y)

-- have the same numbers
pub renamed : (IsNamed IsOther : Dart → Type 0) (AreFollowing AreEdges AreFollowingOthers AreOtherEdges : Dart → Dart → Type 0) (name other : Dart → Dart) (s : Structure) (number : Dart → ℕ)
    → AreRenamed IsNamed IsOther AreFollowing AreEdges AreFollowingOthers AreOtherEdges name other → AreNumbers IsNamed AreFollowing AreEdges s number
    → AreNumbers IsOther AreFollowingOthers AreOtherEdges s (λ (x : Dart). number (name x))
renamed IsNamed IsOther AreFollowing AreEdges AreFollowingOthers AreOtherEdges name other s number r n = record {
  within = λ x h. n.within (name x) (r.named x h);
  different = λ x y h i e. sym (r.there x h) ∙ ap other (n.different (name x) (name y) (r.named x h) (r.named y i) e) ∙ r.there y i;
  all = λ d l. let found = n.all d l in (other found.0, r.others found.0 found.1, ap number (r.back found.0 found.1) ∙ found.2);
  root = n.root ∙ ap number (sym r.root);
  next = λ x y h f. n.next (name x) (name y) (r.named x h) (r.next x y h f);
  twin = λ x y h f. n.twin (name x) (name y) (r.named x h) (r.twin x y h f);
}

-- the same twins one behind another, under other names
pub behind_moves : (IsAmong IsOneOf : ℕ → Type 0) (other last : Dart) (bound limit : ℕ) (name : Dart → Dart) (dart : Dart) → name other ≡ last
    → ((x : ℕ) → x < bound → IsAmong x → (x < limit) × IsOneOf x × (name (twin_of x) ≡ twin_of x)) → ((x : ℕ) → x < limit → IsOneOf x → (x < bound) × IsAmong x)
    → IsBehind IsAmong other bound dart → IsBehind IsOneOf last limit (name dart)
behind_moves IsAmong IsOneOf other last bound limit name dart e to from (next_twin x l h none f) =
    let m = to x l h in next_twin x m.0 m.1 (λ y n k g. let r = from y k g in none y n r.0 r.1) (ap name f ∙ m.2)
behind_moves IsAmong IsOneOf other last bound limit name dart e to from (no_more none f) =
    no_more (λ y k g. let r = from y k g in none y r.0 r.1) (ap name f ∙ e)
