-- Tokens that may guard a record, as a trace has them (own).
use Rattle.std.specs.Prelude.{ℕ, List, codes, is_some, if◌then◌else◌, Result}
use Rattle.serde_json.specs.Data.{Data}
use Rattle.serde_json.specs.Find.{get}
use Rattle.lwkt_base.specs.declared.opening_specs.TokSpec.{TokSpec}
use Rattle.lwkt_script.specs.declared.versions.Version.{Version}
use Rattle.lwkt_script.specs.declared.versions.Version.TheVariants.{First, Second}
use Rattle.lwkt_script.specs.Format.{token}

-- the version of scripts that a token is written in: the second where it names its record
abbrev pub version_in : Data → Version
version_in d = if is_some (get (codes "record") d) then Second else First

-- the token after those, as scripts of its version have it
abbrev pub guarded : List TokSpec → Data → Result TokSpec ℕ
guarded before d = token (version_in d) before d
