-- A text and the script that it is.
use Rattle.std.proofs.Common.{◌≡◌, ℕ, ◌<◌, ◌≤◌, List, [], ◌∷◌, length, Bool, true, false, cond, Some, None, Err, refl, sym, ◌∙◌, arith, le-leb}
use Rattle.std.specs.Str.{is_utf8, IsUtf8}
use Rattle.std.proofs.lemmas.Str.{IsUtf8-from_is_utf8, is_utf8-from_IsUtf8}
use Rattle.serde_json.specs.Data.{Data}
use Rattle.serde_json.specs.Read.{read}
use Rattle.serde_json.proofs.OnLiterals.{serde_json_on_literals}
use Rattle.lwkt_script.specs.Format.{script, script_of}

-- a text that is read is the script that its value is
pub text_read : (bytes : List ℕ) (d : Data) → length bytes ≤ 1048576 → IsUtf8 bytes → read bytes ≡ Some d → script_of bytes ≡ script d
unfolding script_of
text_read bytes d short text h = rw (le-leb (length bytes) 1048576 short, is_utf8-from_IsUtf8 bytes text, h)

unread : (bytes : List ℕ) (text : Bool) → is_utf8 bytes ≡ text → (IsUtf8 bytes → read bytes ≡ None) → cond text (read bytes) None ≡ None
unread bytes true is refused = refused (IsUtf8-from_is_utf8 bytes is)
unread bytes false is refused = refl

-- a text that is not read is refused as a whole
pub text_refused : (bytes : List ℕ) → length bytes ≤ 1048576 → (IsUtf8 bytes → read bytes ≡ None) → script_of bytes ≡ Err 0
unfolding script_of
text_refused bytes short refused = rw (le-leb (length bytes) 1048576 short, unread bytes (is_utf8 bytes) refl refused)

none_read : read [] ≡ None
unfolding serde_json_on_literals
none_read = refl

-- no bytes are no value
pub read_some : (bytes : List ℕ) (d : Data) → read bytes ≡ Some d → 0 < length bytes
read_some [] d h = absurd (let e = sym none_read ∙ h in cc)
read_some (b ∷ bytes) d h = omega arith
