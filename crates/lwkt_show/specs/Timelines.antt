-- A run in the trace event format (Trace Event Format, Google: duration, flow and metadata events).
use Rattle.std.specs.Prelude.{ℕ, List, ◌++◌, codes}
use Rattle.std.specs.Fmt.{decimal}
use Rattle.lwkt_show.specs.declared.timelines.Site.{Site}

-- where an event stands: its group of tracks, its track, and its turn, each a microsecond long
abbrev pub place_text : Site → List ℕ
place_text site = (codes ",\"pid\":" ++ decimal site.group) ++ (codes ",\"tid\":" ++ decimal site.track) ++ (codes ",\"ts\":" ++ decimal site.turn)

-- the beginning of the event that names a group of tracks, or a track of it
abbrev pub track_text : List ℕ → ℕ → ℕ → List ℕ
track_text what group track = codes "{\"ph\":\"M\",\"name\":\"" ++ what ++ (codes "\",\"pid\":" ++ decimal group) ++ (codes ",\"tid\":" ++ decimal track) ++ codes ",\"args\":{\"name\":\""
