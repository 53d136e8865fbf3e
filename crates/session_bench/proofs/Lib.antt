mod HeardOn
