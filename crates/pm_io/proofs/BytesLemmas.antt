-- Calls one after another, as one call.
use Rattle.std.proofs.Common.{◌≡◌, ℕ, ◌+◌, List, [], ◌++◌, Option, None, Some, refl, ap}
use Rattle.std.proofs.lemmas.List.{append-nil, append_assoc, drop-drop}
use Rattle.pm_io.specs.Bytes.{added, without}

-- two pieces, as one
pub added-added : (held : Option (List ℕ)) (first second : List ℕ) → added (added held first) second ≡ added held (first ++ second)
added-added None first second = refl
added-added (Some bytes) first second = ap Some (append_assoc bytes first second)

-- an empty piece
pub added-nil : (held : Option (List ℕ)) → added held [] ≡ held
added-nil None = refl
added-nil (Some bytes) = ap Some (append-nil bytes)

-- two reads, as one
pub without-without : (first second : ℕ) (bytes : Option (List ℕ)) → without second (without first bytes) ≡ without (first + second) bytes
without-without first second None = refl
without-without first second (Some bytes) = ap Some (drop-drop second first bytes)

-- a read of nothing
pub without-zero : (bytes : Option (List ℕ)) → without 0 bytes ≡ bytes
without-zero None = refl
without-zero (Some bytes) = refl
