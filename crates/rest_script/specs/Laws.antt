-- What scripts keep, in the words of the subject.
use Rattle.std.specs.Prelude.{◌≡◌, ◌≢◌, ◌==◌, ℕ, List, [], ◌∷◌, ◌++◌, Option, Some, Ok, filter}
use Rattle.front_api.specs.Seen.{LeadsTo, SeenBooks}
use Rattle.front_api.specs.SeenLaws.{OfMetricHistory}
use Rattle.measure_json.specs.Measures.{measures_read}
use Rattle.rest_replies.specs.ReplyLine.{reply_line_text}
use Rattle.rest_replies.specs.Script.{LineMeaning, Means}
use Rattle.rest_replies.specs.declared.status.HttpStatus.{HttpStatus}
use Rattle.rest_replies.specs.declared.status.HttpStatus.TheVariants.{Unavailable}
use Rattle.rest_routes.specs.Routes.{found, routing_of}
use Rattle.rest_routes.specs.declared.method.Method.TheVariants.{Post}
use Rattle.rest_routes.specs.declared.route.Route.TheVariants.{Measures}
use Rattle.sack_history.specs.Entries.{kept}
use Rattle.sack_history.specs.Lives.{all_posts}
use Rattle.series_model.specs.declared.measure.Measure.{Measure}
use Rattle.series_model.specs.declared.metric.MetricId.{MetricId}
use Rattle.std.specs.Io.KnownBytes.{Appends}
use Rattle.rest_script.specs.Lines.{AreLines}
use Rattle.rest_script.specs.Replying.{AnswersLines}

-- the line posts this body to the measures of a metric
pub record PostsLine (line : List ℕ) (metric : MetricId) (body : List ℕ) : Type 0 where
  pub method : List ℕ
  pub target : List ℕ
  pub query : List ℕ
  pub means : Means line (LineMeaning.request method target body)
  pub route : routing_of method target ≡ found (Measures (Some metric)) Post query

-- the batch that a body has stands once in the history of the metric's sack, with a number of its own
pub record StandsOnce (metric : MetricId) (body : List ℕ) (books : SeenBooks) : Type 0 where
  pub measures : List Measure
  pub number : ℕ
  pub read : measures_read body ≡ Ok measures
  pub once : OfMetricHistory metric (λ h. filter (λ p. p.number == number) (all_posts (kept h))
      ≡ record { number = number; metric = metric; measures = measures } ∷ []) books

-- the input is lines, and all of their replies were written
pub record AreAnswered {F : Type 0} (stands : F → SeenBooks → Type 0) (old new : F) (input : List ℕ) (taken_before taken_after : Option (List ℕ)) : Type 0 where
  pub lines : List (List ℕ)
  pub replies : List ℕ
  pub lines_are : AreLines input lines
  pub written : Appends taken_before taken_after replies
  pub leads : LeadsTo stands old new (AnswersLines lines replies)

-- a reply: none, or a line with another status than 503
pub data IsAvailable : List ℕ → Type 0 where
  none : IsAvailable []
  line : (status : HttpStatus) (body : List ℕ) → status ≢ Unavailable → IsAvailable (reply_line_text status body)

-- the lines were answered one after another, each with such a reply
pub data AreAvailable : List (List ℕ) → List ℕ → Type 0 where
  nothing : AreAvailable [] []
  one_more : (lines : List (List ℕ)) (line text reply : List ℕ) → AreAvailable lines text → IsAvailable reply
      → AreAvailable (lines ++ line ∷ []) (text ++ reply)

-- such a reply, or the first bytes of it
pub record BeginsAvailable (text : List ℕ) : Type 0 where
  pub more : List ℕ
  pub whole : IsAvailable (text ++ more)
