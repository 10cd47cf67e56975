-- A piece written in several calls: a prefix of it was added so far.
use Rattle.std.proofs.Common.{◌≡◌, ℕ, ◌+◌, List, ◌++◌, take, drop, Option, None, Some}
use Rattle.std.proofs.lemmas.List.{append_assoc, drop-drop}
use Rattle.std.specs.Io.KnownBytes.{Appends}
use Rattle.pm_io.proofs.Turns.{take-add}

Appends-Appends : (old mid new : Option (List ℕ)) (first second : List ℕ) → Appends old mid first → Appends mid new second → Appends old new (first ++ second)
Appends-Appends None mid new first second a b = tt
Appends-Appends (Some xs) None new first second a b = absurd a
Appends-Appends (Some xs) (Some ys) None first second a b = absurd b
Appends-Appends (Some xs) (Some ys) (Some zs) first second a b = rw (b, a) (append_assoc xs first second)

-- n bytes of the piece were added, and these are the rest of it
pub record IsWritten (old now : Option (List ℕ)) (piece rest : List ℕ) : Type 0 where
  pub n : ℕ
  pub left : rest ≡ drop n piece
  pub added : Appends old now (take n piece)

pub IsWritten-more : (old mid new : Option (List ℕ)) (piece rest : List ℕ) (k : ℕ) → IsWritten old mid piece rest → Appends mid new (take k rest) → IsWritten old new piece (drop k rest)
IsWritten-more old mid new piece rest k so_far adds =
    let adds' = rw so_far.left at adds in
    let both = Appends-Appends old mid new (take so_far.n piece) (take k (drop so_far.n piece)) so_far.added adds' in
    record {
      n = so_far.n + k;
      left = rw so_far.left (drop-drop k so_far.n piece);
      added = rw take-add at both;
    }
