-- The lines of metrics, in version 0.0.4 of Prometheus's text format.
use Rattle.std.specs.Prelude.{ℕ, List, [], ◌++◌, Option, Some, None, codes, decimal}
use Rattle.jsp_status.specs.declared.metric.Metric.{Metric}
use Rattle.jsp_status.specs.declared.metric.Kind.{Kind}
use Rattle.jsp_status.specs.declared.metric.Kind.TheVariants.{Counter, Gauge}
use Rattle.jsp_status.specs.Label.{in_label}
use Rattle.jsp_status.specs.Metric.{name_of, help_of, kind_of}

abbrev pub kind_text : Kind → List ℕ
kind_text Counter = codes " counter\n"
kind_text Gauge = codes " gauge\n"

-- what a metric is, and of which kind
unfoldable pub head_of : Metric → List ℕ
head_of m =
    codes "# HELP " ++ name_of m ++ codes " " ++ help_of m ++ codes "\n# TYPE " ++ name_of m ++ kind_text (kind_of m)

-- a metric with one sample
unfoldable pub metric_text : Metric → ℕ → List ℕ
metric_text m n = head_of m ++ name_of m ++ codes " " ++ decimal n ++ codes "\n"

abbrev pub known_metric : Metric → Option ℕ → List ℕ
known_metric m (Some n) = metric_text m n
known_metric m None = []

-- a label and its value
unfoldable pub label_text : List ℕ → List ℕ → List ℕ
label_text label value = label ++ codes "=\"" ++ in_label value ++ codes "\""

-- the end of a sample that has labels
unfoldable pub end_text : ℕ → List ℕ
end_text n = codes "} " ++ decimal n ++ codes "\n"

-- a sample with a label
unfoldable pub labelled : Metric → List ℕ → List ℕ → ℕ → List ℕ
labelled m label value n = name_of m ++ codes "{" ++ label_text label value ++ end_text n

-- a number and a name as labels
unfoldable pub numbered_labels : ℕ → List ℕ → List ℕ
numbered_labels place name =
    label_text (codes "number") (decimal place) ++ codes "," ++ label_text (codes "name") name

-- a sample with a number and a name as labels
unfoldable pub numbered : Metric → ℕ → List ℕ → ℕ → List ℕ
numbered m place name n = name_of m ++ codes "{" ++ numbered_labels place name ++ end_text n
