-- What the options of a subcommand ask for (own).
use Rattle.std.specs.Prelude.{ℕ, ◌&&◌, ◌||◌, ◌==◌, not, List, Bool, true, false, Option, None, Some, is_some, if◌then◌else◌, codes}
use Rattle.std.specs.List.{list_all}
use Rattle.std.specs.Option.{option_and_then, option_map_or}
use Rattle.std.specs.Str.{bytes_eq}
use Rattle.clap.specs.Words.{Row, Text, first_of, found_of, rows_of}
use Rattle.clap.specs.declared.parser.matches.ArgMatches.{ArgMatches}
use Rattle.lwkt_request.specs.declared.ranges.Range.{Range}
use Rattle.lwkt_show.specs.declared.options.Rendering.{Rendering}
use Rattle.lwkt_show.specs.declared.options.Rendering.TheVariants as view
use Rattle.lwkt_show.specs.declared.options.Options.{Options}
use Rattle.lwkt_explore.specs.declared.searches.Method.TheVariants.{Plain, Reduced}
use Rattle.lwkt_request.specs.declared.requests.Form.{Form}
use Rattle.lwkt_request.specs.declared.requests.Form.TheVariants as form
use Rattle.lwkt_request.specs.declared.requests.Layout.{Layout}
use Rattle.lwkt_request.specs.declared.requests.Layout.TheVariants.{Lines, Json}
use Rattle.lwkt_request.specs.declared.requests.Task.{Task}
use Rattle.lwkt_request.specs.declared.requests.Task.TheVariants.{Run, Show, Check, Text as Translate, Explore}
use Rattle.lwkt_request.specs.declared.requests.Wording.{Wording}
use Rattle.lwkt_request.specs.declared.requests.Wording.TheVariants.{Names, Numbers}
use Rattle.lwkt_request.specs.Texts.{bytes_or, no_end, number_named, number_or, path_of, is_part, range_named}

-- what a parse found for the arguments
abbrev pub rows_in : ArgMatches → List Row
rows_in matches = rows_of (found_of matches)

-- whether a flag is named
abbrev pub is_true : Option Text → Bool
is_true value = option_map_or (λ text. bytes_eq text (codes "true")) value false

abbrev pub is_on : Text → List Row → Bool
is_on name rows = is_true (first_of name rows)

-- ---- show

-- the view that `--trace`, `--svg` and `--chains` ask for; none if two are named
abbrev pub rendering_of : Bool → Bool → Bool → Option Rendering
rendering_of false false false = Some view.Lines
rendering_of true false false = Some view.Trace
rendering_of false true false = Some view.Picture
rendering_of false false true = Some view.Chains
rendering_of _ _ _ = None

-- the view that `--format` names: a picture, a page that plays the run, or a timeline
abbrev pub format_named : Text → Option Rendering
format_named format =
    if bytes_eq format (codes "svg") then Some view.Picture
    else (if bytes_eq format (codes "html") then Some view.Player
    else (if bytes_eq format (codes "perfetto") then Some view.Timeline else None))

-- the view that these options ask for; none if `--format` is named beside another one
abbrev pub view_of : Bool → Bool → Bool → Option Text → Option Rendering
view_of trace svg chains None = rendering_of trace svg chains
view_of trace svg chains (Some format) = if trace || (svg || chains) then None else format_named format

-- whether a view is of turns that are chosen, and not of the whole run
abbrev pub has_range : Rendering → Bool
has_range view.Lines = true
has_range view.Trace = false
has_range view.Picture = true
has_range view.Chains = false
has_range view.Player = true
has_range view.Timeline = true

abbrev pub is_whole : Range → Bool
is_whole range = range.first == 0 && range.last == no_end

-- a range and a view; none if the view is of the whole run, and the range isn't
abbrev pub options_of : Rendering → Range → Option Options
options_of rendering range = if has_range rendering || is_whole range then Some (record { rendering = rendering; counted = range.counted; first = range.first; last = range.last }) else None

abbrev pub is_chains : Rendering → Bool
is_chains view.Chains = true
is_chains _ = false

-- of a run on threads the chains are shown, and nothing else
abbrev pub fits_threads : Rendering → Option Text → Option Text → Option Text → Bool
fits_threads rendering order turns rounds = is_chains rendering && (not (is_some order) && (not (is_some turns) && not (is_some rounds)))

-- an order has digits, blanks, commas and dashes, and no rounds
abbrev pub fits_order : Option Text → Option Text → Bool
fits_order order rounds = option_map_or (λ text. list_all is_part text && not (is_some rounds)) order true

abbrev pub fits : Bool → Rendering → Option Text → Option Text → Option Text → Bool
fits on_threads rendering order turns rounds = if on_threads then fits_threads rendering order turns rounds else fits_order order rounds

abbrev pub shown : Bool → Option Text → Option Text → Option Text → Bool → Bool → Bool → Option Text → Bool → Option Task
shown on_threads order turns rounds svg trace chains format in_numbers =
    option_and_then (λ rendering. option_and_then (λ range. option_and_then (λ options.
    if fits on_threads rendering order turns rounds then Some (Show on_threads in_numbers options) else None)
    (options_of rendering range)) (range_named turns rounds)) (view_of trace svg chains format)

abbrev pub show_in : List Row → Option Task
show_in rows =
    shown (is_on (codes "threads") rows) (first_of (codes "order") rows) (first_of (codes "turns") rows) (first_of (codes "rounds") rows)
    (is_on (codes "svg") rows) (is_on (codes "trace") rows) (is_on (codes "chains") rows) (first_of (codes "format") rows) (is_on (codes "numbers") rows)

-- ---- text

-- the form that `--json`, `--text` and `--run` ask for; none unless exactly one is named
abbrev pub form_of : Bool → Bool → Bool → Option Form
form_of true false false = Some form.Json
form_of false true false = Some form.Text
form_of false false true = Some form.Run
form_of _ _ _ = None

abbrev pub text_in : List Row → Option Task
text_in rows = option_and_then (λ form. Some (Translate form)) (form_of (is_on (codes "json") rows) (is_on (codes "text") rows) (is_on (codes "run") rows))

-- ---- explore

-- the bound on states where none is named: if memory is bounded, as many as there are numbers
abbrev pub states_by : Option Text → ℕ
states_by memory = if is_some memory then 4294967295 else 1000000

-- the layout, by whether `--json` is named
abbrev pub layout_of : Bool → Layout
layout_of true = Json
layout_of false = Lines

-- a search; none if a value is no number, or `--all` is named without a folder
abbrev pub explored : Bool → Bool → Option Text → Option Text → Option Text → Option Text → Option Text → Option Text → Bool → Bool → Bool → Bool → Bool → Option Task
explored plain careful states turns memory random seed seconds progress in_numbers json all has_path =
    option_and_then (λ states. option_and_then (λ turns. option_and_then (λ bytes. option_and_then (λ random. option_and_then (λ seed. option_and_then (λ seconds.
    if all && not has_path then None
    else Some (Explore (record {
      bounds = record { states = states; turns = turns; bytes = bytes; compared = if careful then 1 else 1000 };
      method = if plain then Plain else Reduced;
      random = random;
      seed = seed;
      seconds = seconds;
      progress = progress;
      in_numbers = in_numbers;
      layout = layout_of json;
      all = all;
    }))) (number_named seconds)) (number_or 0 seed)) (number_named random)) (bytes_or 18446744073709551615 memory)) (number_or 100000 turns)) (number_or (states_by memory) states)

abbrev pub explore_in : List Row → Option Task
explore_in rows =
    explored (is_on (codes "plain") rows) (is_on (codes "careful") rows) (first_of (codes "states") rows) (first_of (codes "turns") rows) (first_of (codes "memory") rows) (first_of (codes "random") rows)
    (first_of (codes "seed") rows) (first_of (codes "seconds") rows) (is_on (codes "progress") rows) (is_on (codes "numbers") rows) (is_on (codes "json") rows) (is_on (codes "all") rows)
    (is_some (path_of (first_of (codes "FILE") rows)))

-- ---- run

-- the words in which a run is reported, by whether `--numbers` is named
abbrev pub wording_of : Bool → Wording
wording_of true = Numbers
wording_of false = Names

-- ---- all

-- what the subcommand of this name asks for
abbrev pub task_in : Text → List Row → Option Task
task_in name rows =
    if bytes_eq name (codes "run") then Some (Run (is_on (codes "threads") rows) (wording_of (is_on (codes "numbers") rows)))
    else (if bytes_eq name (codes "show") then show_in rows
    else (if bytes_eq name (codes "check") then Some (Check (is_on (codes "lines") rows))
    else (if bytes_eq name (codes "text") then text_in rows
    else (if bytes_eq name (codes "explore") then explore_in rows else None))))
