-- What a program says where its errors go, beside its line (own).
use Rattle.std.specs.Prelude.{◌≡◌, ℕ, Bool, false, List, Option, None, Some}
use Rattle.std.specs.Io.KnownBytes.{Appends}
use Rattle.std.specs.declared.io.Error.{Error}
use Rattle.std.specs.declared.io.ErrorKind.TheVariants.{BrokenPipe}
use Rattle.std.specs.IoError.{error_kind}

-- some words, perhaps none, are written behind what stands; a failure stays one
pub record SaysMore (failed failed' : Bool) (old new : Option (List ℕ)) : Type 0 where
  pub words : List ℕ
  pub behind : Appends old new words
  pub stays : failed' ≡ false → failed ≡ false

-- a write failed since nobody reads any more what is written
abbrev pub HasNoReader : Option Error → Type 0
HasNoReader None = ⊥
HasNoReader (Some error) = error_kind error ≡ BrokenPipe
